use Rattle.std.proofs.Common.{◌≡◌, ℕ, ◌+◌, Bool, ◌||◌, List, [], ◌∷◌, Option, refl, ap, ◌∙◌, rules, tests}
use Rattle.std.proofs.lemmas.Iterator.{YieldsList-from_slice}
use Rattle.std.proofs.lemmas.Iterator.Consumers.{YieldsList-from_enumerate, YieldsList-at}
use Rattle.std.proofs.lemmas.Iterator.Search.{any_from_yields_List}
use Rattle.std.specs.List.{list_any, enumerate_from}
use Rattle.signalling.specs.declared.content.Function.{Function}
use Rattle.rules.specs.declared.station.Mark.{Mark}
use Rattle.rules.specs.Frames.{slots_back, covers, covered_from}
use Rattle.requests.proofs.cover.is_covered.Goals as goal

-- the records with their indices: some one covers
as_any : (invites : Function → Bool) (place index : ℕ) (ms : List (Option Mark)) → list_any (λ p. covers invites (slots_back place p.0) p.1) (enumerate_from index ms) ≡ covered_from invites place index ms
unfolding covered_from
as_any invites place index [] = refl
as_any invites place index (m ∷ ms) = ap (λ b. covers invites (slots_back place index) m || b) (as_any invites place (index + 1) ms)

pub returns : goal.returns
returns g c =
    let test : ℕ × Option Mark → Bool = λ p. covers (g.S.Service.invites c.args.service.now) (slots_back c.args.frames.now.place p.0) p.1 in
    any_from_yields_List test _ _ c.any.result c.any.ensures.ran (YieldsList-from_enumerate (YieldsList-at c.enumerate.ensures.source (YieldsList-from_slice c.args.frames.now.marks (cc))) (cc)) (λ x b q k. search (rules, tests))
    ∙ as_any _ _ 0 c.args.frames.now.marks
