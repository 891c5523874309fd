-- The published vectors, worked out.
use Rattle.bits.specs.Permute.{spread}
use Rattle.present.specs.Present.{replaced, s_box_layer, p_layer, rotated, boxed, counted, update, round_keys, rounds, present}
use Rattle.present.specs.Published.{tests, agree, Published}
use Rattle.present.specs.Tables.{SBOX, P}

pub published : Published
unfolding tests agree SBOX P spread replaced s_box_layer p_layer rotated boxed counted update round_keys rounds present
published = tt
