use Rattle.std.proofs.Common.{◌≡◌, fold, ◌∙◌, rules}
use Rattle.present.proofs.Folds.{round, run_is}
use Rattle.present.proofs.rounds.rounds_of.Goals as goal

pub returns : goal.returns
returns c =
    let h : c.fold.result ≡ fold round c.args.x c.args.later.now = search rules in
    h ∙ run_is c.args.later.now c.args.x
