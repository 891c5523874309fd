use Rattle.std.proofs.Common.{◌≤◌, length, refl, ◌∙◌, rules}
use Rattle.script.proofs.Pairs.{more, other, done, odd}
use Rattle.script.proofs.digits.pairs.Goals as goal

pub returns-in_default-byte : goal.returns-in_default-byte
returns-in_default-byte c = search (rules, other)

pub loop-left-preserved : goal.loop-left-preserved
loop-left-preserved c =
    let h : 2 ≤ length c.loop-left.left.now = search rules in
    more _ _ _ _ _ h c.in-Some.ensures c.in_ok-push.ensures.items refl ∙ c.loop-left.invariant

pub returns-then-is_empty : goal.returns-then-is_empty
returns-then-is_empty c = search (rules, done)

pub returns-else-is_empty : goal.returns-else-is_empty
returns-else-is_empty c = search (rules, odd)
