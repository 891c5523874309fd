use borrow.Author.Rules.{rules}
use Rattle.xtea.specs.Cycles.{uncycles_none, uncycles_more}
use Rattle.xtea.proofs.all_uncycled.Goals as goal

pub loop-n-preserved : goal.loop-n-preserved
loop-n-preserved c = search (rules, uncycles_more)

pub returns : goal.returns
returns c = search (rules, uncycles_none)
