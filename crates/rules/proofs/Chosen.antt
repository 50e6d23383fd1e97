-- The slot that a request chooses is within its reach, and a permit is ready only for one that is open.
use Rattle.std.proofs.Common.{◌≡◌, ℕ, ◌<◌, Bool, true, false, cond, eqb, List, ◌∷◌, sym, refl, ap, ◌∙◌, subst, arith, ltb-true, eqb-true}
use Rattle.std.proofs.lemmas.Bool.{and_parts}
use borrow.Author.Tests.{eqb-false}
use Rattle.signalling.specs.declared.content.Heard.{Heard}
use Rattle.signalling.specs.declared.content.Noted.{Noted}
use Rattle.signalling.specs.Division.{admits}
use Rattle.signalling.specs.Reading.{marked, leaves_free}
use Rattle.rules.specs.declared.card.Card.{Card}
use Rattle.rules.specs.declared.request.Choice.{Choice}
use Rattle.rules.specs.declared.request.Choice.TheVariants.{Unchosen, Ahead, Ready, Out}
use Rattle.rules.specs.declared.request.Job.{Job}
use Rattle.rules.specs.declared.request.Job.TheVariants.{Free, Trying, Waiting}
use Rattle.rules.specs.declared.request.Live.{Live}
use Rattle.rules.specs.declared.station.Stay.{Stay}
use Rattle.rules.specs.Choosing.{may_choose, draws, first_try, chosen, permitted, choosing}
use Rattle.rules.specs.Meanings.{Meaning, Lawful}
use Rattle.rules.proofs.Cards.{Ranged}
use Rattle.rules.proofs.Counts.{marked_most}
use Rattle.rules.proofs.Stays.{StayIs}
use Rattle.rules.proofs.Tables.{covered-back}
use Rattle.rules.proofs.Tries.{ReachedBy, ChoiceIs, MidChoice, TryIs, WaitIs, LateTry, LastJob}

module _ {D S : Type 0} (m : Meaning D S) (lawful : Lawful m) (card : Card) (range : Ranged card) (h : Heard) (hs : List Heard) (st : Stay) (is : StayIs card st (h ∷ hs)) where
  -- a slot drawn from the frame marked now
  drawn-reached : (source : D) (l : Live S) (window : ℕ) (c : Choice) (w : ℕ) → LateTry m card range l window c (h ∷ hs) w → window ≡ 0 → draws m card.address l.service st (marked h.content) ≡ true → MidChoice m card range l window (h ∷ hs) (Ahead (m.ready source (marked h.content)))
  drawn-reached source l window c w late over e =
      let slots = and_parts _ _ e in
      let suits = and_parts _ _ slots.1 in
      let some : 0 < marked h.content = ltb-true 0 (marked h.content) slots.0 in
      let inside = lawful.within source (marked h.content) some (marked_most h.content) in (
        over,
        inside.0,
        record {
          marker = 0;
          division = 0;
          later = omega arith;
          since_begin = omega (arith, late.grown);
          covers = omega (arith, inside.1);
          inviting = ap (λ (n : Noted). m.invites l.service n.function) (sym is.notes) ∙ suits.0;
          admitted = ap (λ (n : Noted). admits (m.emergency l.service) n.division card.address) (sym is.notes) ∙ suits.1;
          fresh = λ sent. omega (arith, late.some);
        },
      )

  -- the next slot by the first-try option: nothing was sent yet
  first-reached : (l : Live S) (window : ℕ) (c : Choice) (w : ℕ) → LateTry m card range l window c (h ∷ hs) w → window ≡ 0 → first_try m card.address l st ≡ true → MidChoice m card range l window (h ∷ hs) (Ahead 1)
  first-reached l window c w late over e =
      let first = and_parts _ _ e in
      let rest = and_parts _ _ first.1 in
      let age = eqb-true l.age 1 first.0 in
      let back = covered-back card.nw st.frames (h ∷ hs) is.frames (m.invites l.service) rest.1 in (
        over,
        omega arith,
        record {
          marker = back.marker;
          division = 0;
          later = omega arith;
          since_begin = omega (arith, late.grown);
          covers = back.covers;
          inviting = back.inviting;
          admitted = ap (λ (n : Noted). admits (m.emergency l.service) n.division card.address) (sym is.notes) ∙ rest.0;
          fresh = λ sent. absurd (omega (arith, late.older sent, late.some));
        },
      )

  chosen-reached : (source : D) (l : Live S) (window : ℕ) (c : Choice) (w : ℕ) → LateTry m card range l window c (h ∷ hs) w → window ≡ 0 → (d f : Bool) → draws m card.address l.service st (marked h.content) ≡ d → first_try m card.address l st ≡ f → MidChoice m card range l window (h ∷ hs) (cond d (Ahead (m.ready source (marked h.content))) (cond f (Ahead 1) Unchosen))
  chosen-reached source l window c w late over true f p q = drawn-reached source l window c w late over p
  chosen-reached source l window c w late over false true p q = first-reached l window c w late over q
  chosen-reached source l window c w late over false false p q = tt

  may_reach : (source : D) (l : Live S) (window : ℕ) (w : ℕ) → LateTry m card range l window Unchosen (h ∷ hs) w → (b : Bool) → eqb window 0 ≡ b → MidChoice m card range l window (h ∷ hs) (cond b (chosen m card.address source l st (marked h.content)) Unchosen)
  may_reach source l window w late true e = chosen-reached source l window Unchosen w late (eqb-true window 0 e) _ _ refl refl
  may_reach source l window w late false e = tt

  reaches : (source : D) (l : Live S) (window : ℕ) (c : Choice) (w : ℕ) → LateTry m card range l window c (h ∷ hs) w → MidChoice m card range l window (h ∷ hs) (cond (may_choose window c) (chosen m card.address source l st (marked h.content)) c)
  reaches source l window Unchosen w late = may_reach source l window w late _ refl
  reaches source l window (Ahead n) w late = late.chose
  reaches source l window Ready w late = absurd late.chose
  reaches source l window Out w late = absurd late.chose

  -- a chosen slot that comes next is permitted where it is free
  next_permitted : (l : Live S) (window n : ℕ) → MidChoice m card range l window (h ∷ hs) (Ahead n) → (b free : Bool) → eqb n 1 ≡ b → leaves_free h.content card.address ≡ free → ChoiceIs m card range l window (h ∷ hs) (cond b (cond free Ready Unchosen) (Ahead n))
  next_permitted l window n mid true true e f = (mid.0, subst (ReachedBy m card range l (h ∷ hs)) (eqb-true n 1 e) mid.2, f)
  next_permitted l window n mid true false e f = tt
  next_permitted l window n mid false free e f = let apart = eqb-false n 1 e in (mid.0, omega (arith, mid.1, apart), mid.2)

  permits : (l : Live S) (window : ℕ) (c : Choice) → MidChoice m card range l window (h ∷ hs) c → ChoiceIs m card range l window (h ∷ hs) (permitted (leaves_free h.content card.address) c)
  permits l window Unchosen mid = tt
  permits l window (Ahead n) mid = next_permitted l window n mid _ _ refl refl
  permits l window Ready mid = absurd mid
  permits l window Out mid = absurd mid

  -- what is kept of a request once a slot was heard: l is the request a slot older
  abbrev pub DoneJob : Live S → ℕ → Job S → Type 0
  DoneJob l w Free = ⊥
  DoneJob l w (Trying live window c) = (live ≡ l) × TryIs m card range live window c (h ∷ hs) w
  DoneJob l w (Waiting live) = (live ≡ l) × WaitIs m card range live

  pub chooses : (source : D) (l : Live S) (w : ℕ) (job : Job S) → LastJob m card range l (h ∷ hs) w job → DoneJob l w (choosing m card.address (leaves_free h.content card.address) source job st (marked h.content))
  chooses source l w Free last = last
  chooses source l w (Trying live window c) last =
      let late = last.1 in (
        last.0,
        record { few = late.few; young = late.young; spaced = late.spaced; older = late.older; more = late.more; chose = permits live window _ (reaches source live window c w late) },
      )
  chooses source l w (Waiting live) last = last
