use Rattle.std.proofs.Common.{sym}
use Rattle.contents.proofs.RoundTrips.{image_read}
use Rattle.contents.proofs.Contents.from_image.Goals as goal

pub invariant_of-result : goal.invariant_of-result
invariant_of-result c =
    record {
      counted = c.in_ok-from_image.field-0.counted;
      ok = (image_read c.args.image.now _ (sym c.in_ok-from_image.ensures)).1;
    }

pub returns-clause-back : goal.returns-clause-back
returns-clause-back c = (image_read c.args.image.now _ (sym c.in_ok-from_image.ensures)).0
