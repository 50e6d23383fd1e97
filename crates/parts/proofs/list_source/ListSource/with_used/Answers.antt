use Rattle.std.proofs.Common.{length, sym, refl, ap, ◌∙◌}
use Rattle.std.proofs.iter.runs.Lists.{nth_drop}
use Rattle.parts.specs.Lists.{choice_by}
use Rattle.parts.proofs.After.{list_after}
use Rattle.parts.proofs.list_source.ListSource.with_used.Goals as goal

pub returns : goal.returns
returns g c =
    let xs = g.L.NumberList.items c.args.list in
    record {
      list = refl;
      used = refl;
      later = λ lengths slots. ap (λ o. choice_by o slots) (list_after xs (record { list = c.args.list; used = c.args.used }) lengths ∙ sym (nth_drop c.args.used xs (length lengths)));
    }
