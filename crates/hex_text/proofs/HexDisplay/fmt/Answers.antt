use Rattle.std.proofs.Common.{rules, refl, ◌<◌, take, get_or, List, ℕ, Option, subst, ap, sym, ◌∙◌}
use Rattle.std.specs.Fmt.{DisplaysOnOk}
use Rattle.std.proofs.lemmas.List.{take_more}
use Rattle.std.proofs.Output.{has_written_append, has_written_of_eq}
use Rattle.hex.specs.Hex.{encode_upper, encode_with}
use Rattle.hex_text.proofs.Texts.{digits_more, byte_output}
use Rattle.hex_text.proofs.HexDisplay.fmt.Goals as goal

pub loop-byte-init : goal.loop-byte-init
unfolding encode_with
loop-byte-init g c = search rules

pub loop-byte-preserved : goal.loop-byte-preserved
loop-byte-preserved g c =
    let bytes = c.args.self.now.bytes.now in
    let i = c.loop-byte.byte-index in
    let small : get_or bytes i 0 < 256 = search rules in
    let output = byte_output _ c.in_radix.result c.laid_out.result small c.in_radix.ensures c.laid_out.ensures in
    let written = subst (λ (o : Option (List ℕ)). DisplaysOnOk g.W.Write.write_str_gives c.loop-byte.f c.write.result o c.write.new.self)
    output c.write.ensures.writes in (
      refl,
      λ plain.
          let so_far = c.loop-byte.invariant.1 plain in
          has_written_of_eq _ _ _ _ _ (sym (ap encode_upper (take_more bytes i 0 (search rules)) ∙ digits_more (take i bytes) (get_or bytes i 0)))
          (has_written_append _ _ _ _ _ _ so_far (written so_far.plain (search rules))),
    )
