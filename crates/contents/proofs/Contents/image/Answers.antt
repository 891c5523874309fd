use Rattle.std.proofs.Common.{length, ap, arith}
use Rattle.std.specs.List.{flat_map}
use Rattle.std.proofs.lemmas.List.{length-append}
use Rattle.contents.specs.Contents.{held}
use Rattle.contents.specs.Image.{key_set_bytes, entry_bytes}
use Rattle.contents.proofs.Images.{room, image_in_order}
use Rattle.contents.proofs.Contents.image.Goals as goal

pub write_all-requires : goal.write_all-requires
write_all-requires c =
    let m = room (held c.args.self.now) c.args.self.now.ok in
    let k = ap (λ ks. length (flat_map key_set_bytes ks)) c.listed.ensures.list in
    omega (arith, ap length c.new-image.ensures, simp length-append at (ap length c.append.ensures), simp length-append at (ap length c.append-2.ensures), m.ten, m.keys_long, k)

pub write_all-requires-2 : goal.write_all-requires-2
write_all-requires-2 c =
    let m = room (held c.args.self.now) c.args.self.now.ok in
    let k = ap (λ ks. length (flat_map key_set_bytes ks)) c.listed.ensures.list in
    let e = ap (λ es. length (flat_map entry_bytes es)) c.listed-2.ensures.list in
    omega (arith, ap length c.new-image.ensures, simp length-append at (ap length c.append.ensures), simp length-append at (ap length c.append-2.ensures), simp length-append at (ap length c.write_all.ensures), m.ten, m.keys_long, k, m.entries_long, e)

pub append-requires-3 : goal.append-requires-3
append-requires-3 c =
    let m = room (held c.args.self.now) c.args.self.now.ok in
    let k = ap (λ ks. length (flat_map key_set_bytes ks)) c.listed.ensures.list in
    let e = ap (λ es. length (flat_map entry_bytes es)) c.listed-2.ensures.list in
    omega (arith, ap length c.new-image.ensures, simp length-append at (ap length c.append.ensures), simp length-append at (ap length c.append-2.ensures), simp length-append at (ap length c.write_all.ensures), simp length-append at (ap length c.write_all-2.ensures), m.ten, m.keys_long, k, m.entries_long, e)

pub returns : goal.returns
returns c =
    rw (c.append-3.ensures, c.write_all-2.ensures, c.write_all.ensures, c.append-2.ensures, c.append.ensures, c.new-image.ensures, c.listed.ensures.list, c.listed-2.ensures.list)
    (image_in_order (held c.args.self.now) c.from.result c.from.ensures)
