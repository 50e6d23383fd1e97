use Rattle.std.proofs.Common.{rules}
use Rattle.rules.specs.Meanings.{meaning_of, Lawful}
use Rattle.rules.proofs.Cards.{ranged}
use Rattle.rules.proofs.Runs.{run_law}
use Rattle.access.proofs.set.Set.fresh.Goals as goal

-- the laws of the parts give the run law
pub returns : goal.returns
returns g c =
    let parts = meaning_of g.D.DrawSource g.S.Service (g.P.NetworkPlan.accepts c.args.plan) in
    let laws : Lawful parts = record { within = g.met.D.DrawSource.chosen_within; ordinary = g.met.S.Service.ordinary_not_by_alhe } in
    record {
      set = search rules;
      law = run_law parts laws c.args.card (ranged c.args.card c.args.channel c.requires) c.args.channel c.args.source;
    }
