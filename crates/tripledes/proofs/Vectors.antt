-- The published tests, worked out.
use Rattle.bits.specs.Permute.{bit, permute}
use Rattle.tripledes.specs.Des.{box, selected, f, rounds, crypt, rotated, schedule, round_keys, des}
use Rattle.tripledes.specs.Published.{tests, agree, Published}
use Rattle.tripledes.specs.Tables.{IP, FP, E, P, PC1, PC2, SHIFTS, BOXES, S1, S2, S3, S4, S5, S6, S7, S8}

pub published : Published
unfolding tests agree IP FP E P PC1 PC2 SHIFTS BOXES S1 S2 S3 S4 S5 S6 S7 S8 bit permute box selected f rounds crypt rotated schedule round_keys des
published = tt
