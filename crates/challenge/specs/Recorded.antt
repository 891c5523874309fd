-- What a recorded source means.
use Rattle.std.specs.Prelude.{drop, vec_items}
use Rattle.challenge.specs.declared.recorded.Recorded.{Recorded}
use Rattle.challenge.specs.Draws.{Challenges}

-- all its challenges
abbrev pub recorded_whole : Recorded → Challenges
recorded_whole s = vec_items s.challenges

-- those that are not drawn yet
abbrev pub recorded_coming : Recorded → Challenges
recorded_coming s = drop s.drawn (recorded_whole s)
