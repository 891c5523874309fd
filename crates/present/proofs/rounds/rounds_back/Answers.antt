use Rattle.std.proofs.Common.{◌≡◌, fold, reverse, ◌∙◌, rules}
use Rattle.present.proofs.Folds.{back, run_back_is}
use Rattle.present.proofs.rounds.rounds_back.Goals as goal

pub returns : goal.returns
returns c =
    let h : c.fold.result ≡ fold back c.args.x (reverse c.args.later.now) = search rules in
    h ∙ run_back_is c.args.later.now c.args.x
