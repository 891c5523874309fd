use borrow.Author.Rules.{rules}
use Rattle.xtea.specs.Cycles.{cycles_none, cycles_more}
use Rattle.xtea.proofs.all_cycled.Goals as goal

pub loop-n-init : goal.loop-n-init
loop-n-init c = search (rules, cycles_none)

pub loop-n-preserved : goal.loop-n-preserved
loop-n-preserved c = search (rules, cycles_more)
