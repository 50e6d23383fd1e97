-- What holds of an open request between calls, and how a heard slot keeps it, step by step.
use Rattle.std.proofs.Common.{◌≡◌, ℕ, suc, ◌+◌, ◌-◌, ◌<◌, ◌≤◌, Bool, true, false, cond, ◌&&◌, eqb, leb, List, ◌∷◌, Ok, Err, Result, sym, refl, arith, leb-false}
use borrow.Author.Tests.{eqb-false, clash}
use Rattle.std.specs.Result.{IfOk}
use Rattle.signalling.specs.declared.content.Heard.{Heard}
use Rattle.parts.specs.declared.verdict.EndWord.{EndWord}
use Rattle.parts.specs.declared.verdict.EndWord.TheVariants.{NoAccess}
use Rattle.parts.specs.declared.verdict.Verdict.{Verdict}
use Rattle.rules.specs.declared.card.Card.{Card}
use Rattle.rules.specs.declared.request.Choice.{Choice}
use Rattle.rules.specs.declared.request.Choice.TheVariants.{Unchosen, Ahead, Ready, Out}
use Rattle.rules.specs.declared.request.End.{End}
use Rattle.rules.specs.declared.request.Job.{Job}
use Rattle.rules.specs.declared.request.Job.TheVariants.{Free, Trying, Waiting}
use Rattle.rules.specs.declared.request.Live.{Live}
use Rattle.rules.specs.Jobs.{end_of, passed, lapsed, aged, judged, answered, timed, tried, waited, onward, through}
use Rattle.rules.specs.Histories.{free_next}
use Rattle.rules.specs.Law.{Reached}
use Rattle.rules.specs.Meanings.{Meaning}
use Rattle.rules.specs.Slots.{out_in}
use Rattle.rules.proofs.Cards.{Ranged}
use Rattle.rules.proofs.Counts.{raised-one}

-- where P holds of a request that goes on, and Q of what the next step has go on from there, Q holds of what goes on after both
pub going_on : {S : Type 0} (P Q : Job S → Type 0) (p : Result (Job S) End) (next : Job S → Result (Job S) End) → IfOk p P → ((job : Job S) → P job → IfOk (next job) Q) → IfOk (onward p next) Q
going_on P Q (Err e) next h k = tt
going_on P Q (Ok job) next h k = k job h

module _ {D S : Type 0} (m : Meaning D S) (card : Card) (range : Ranged card) where
  -- the return slot so many ahead is within reach of a request
  abbrev pub ReachedBy : Live S → List Heard → ℕ → Type 0
  ReachedBy l hs n = Reached card.address card.nw (m.invites l.service) (m.emergency l.service) hs l.age l.sends l.since n

  -- between calls: a chosen slot is at least two ahead; a permit, ready or out, is for a free slot
  abbrev pub ChoiceIs : Live S → ℕ → List Heard → Choice → Type 0
  ChoiceIs l window hs Unchosen = Unit {0}
  ChoiceIs l window hs (Ahead n) = (window ≡ 0) × (2 ≤ n) × ReachedBy l hs n
  ChoiceIs l window hs Ready = (window ≡ 0) × ReachedBy l hs 1 × (free_next card.address hs ≡ true)
  ChoiceIs l window hs Out = (window ≡ 0) × ReachedBy l hs 1 × (free_next card.address hs ≡ true)

  -- between calls: a request in try; w is the WAIT noted at its last transmission
  pub record TryIs (l : Live S) (window : ℕ) (choice : Choice) (hs : List Heard) (w : ℕ) : Type 0 where
    pub few : l.sends ≤ card.nr
    pub young : l.age < card.tc
    pub spaced : 0 < l.sends → w + 2 ≤ window + l.since
    pub older : 0 < l.sends → l.since < l.age
    pub more : window ≡ 0 → l.sends < card.nr
    pub chose : ChoiceIs l window hs choice

  -- between calls: a request in wait
  pub record WaitIs (l : Live S) : Type 0 where
    pub few : l.sends ≤ card.nr
    pub old : l.age ≤ l.since + card.tc
    pub soon : l.since < card.tj

  -- while a slot is heard: a chosen slot is at least the next
  abbrev pub MidChoice : Live S → ℕ → List Heard → Choice → Type 0
  MidChoice l window hs Unchosen = Unit {0}
  MidChoice l window hs (Ahead n) = (window ≡ 0) × (1 ≤ n) × ReachedBy l hs n
  MidChoice l window hs Ready = ⊥
  MidChoice l window hs Out = ⊥

  -- while a slot is heard: a request in try that has aged
  record MidTry (l : Live S) (window : ℕ) (choice : Choice) (hs : List Heard) (w : ℕ) : Type 0 where
    few : l.sends ≤ card.nr
    young : l.age ≤ card.tc
    some : 1 ≤ l.since
    grown : 1 ≤ l.age
    spaced : 0 < l.sends → w + 3 ≤ window + l.since
    older : 0 < l.sends → l.since < l.age
    more : window ≡ 0 → l.sends < card.nr
    chose : MidChoice l window hs choice

  -- the same once window and time-out were looked at
  pub record LateTry (l : Live S) (window : ℕ) (choice : Choice) (hs : List Heard) (w : ℕ) : Type 0 where
    pub few : l.sends ≤ card.nr
    pub young : l.age < card.tc
    pub some : 1 ≤ l.since
    pub grown : 1 ≤ l.age
    pub spaced : 0 < l.sends → w + 2 ≤ window + l.since
    pub older : 0 < l.sends → l.since < l.age
    pub more : window ≡ 0 → l.sends < card.nr
    pub chose : MidChoice l window hs choice

  record MidWait (l : Live S) : Type 0 where
    few : l.sends ≤ card.nr
    old : l.age ≤ l.since + card.tc

  module _ (l : Live S) (hs : List Heard) (w : ℕ) where
    abbrev MidJob : Job S → Type 0
    MidJob Free = ⊥
    MidJob (Trying live window choice) = (live ≡ l) × MidTry live window choice hs w
    MidJob (Waiting live) = (live ≡ l) × MidWait live

    abbrev LateJob : Job S → Type 0
    LateJob Free = ⊥
    LateJob (Trying live window choice) = (live ≡ l) × LateTry live window choice hs w
    LateJob (Waiting live) = (live ≡ l) × MidWait live

    abbrev pub LastJob : Job S → Type 0
    LastJob Free = ⊥
    LastJob (Trying live window choice) = (live ≡ l) × LateTry live window choice hs w
    LastJob (Waiting live) = (live ≡ l) × WaitIs live

  -- a slot within reach comes one nearer with each slot heard
  nearer : (l : Live S) (h : Heard) (hs : List Heard) (n : ℕ) → l.age < 4294967295 → l.since < 4294967295 → 2 ≤ n → ReachedBy l hs n → ReachedBy (aged l) (h ∷ hs) (n - 1)
  nearer l h hs n age since two r =
      record {
        marker = suc r.marker;
        division = suc r.division;
        later = omega (arith, r.later);
        since_begin = omega (arith, r.since_begin, raised-one _ age);
        covers = omega (arith, r.covers);
        inviting = r.inviting;
        admitted = r.admitted;
        fresh = λ some. omega (arith, r.fresh some, raised-one _ since);
      }

  passes : (l : Live S) (window : ℕ) (h : Heard) (hs : List Heard) (c : Choice) → l.age < 4294967295 → l.since < 4294967295 → out_in c ≡ false → ChoiceIs l window hs c → MidChoice (aged l) window (h ∷ hs) (passed c)
  passes l window h hs Unchosen age since not_out is = tt
  passes l window h hs (Ahead n) age since not_out is = (is.0, omega (arith, is.1), nearer l h hs n age since is.1 is.2)
  passes l window h hs Ready age since not_out is = tt
  passes l window h hs Out age since not_out is = absurd (clash (sym not_out))

  -- a request in try that grows a slot older
  ages : (l : Live S) (window : ℕ) (c : Choice) (h : Heard) (hs : List Heard) (w : ℕ) → out_in c ≡ false → l.since < 4294967295 → TryIs l window c hs w → MidTry (aged l) window (passed c) (h ∷ hs) w
  ages l window c h hs w not_out since is =
      let age : l.age < 4294967295 = omega (arith, is.young, range.tc_most) in
      let e = raised-one _ age in
      let f = raised-one _ since in
      record {
        few = is.few;
        young = omega (arith, is.young);
        some = omega arith;
        grown = omega arith;
        spaced = λ some. omega (arith, is.spaced some);
        older = λ some. omega (arith, is.older some);
        more = is.more;
        chose = passes l window h hs c age since not_out is.chose;
      }

  -- the waiting that a try goes over to
  waits : (l : Live S) → l.sends ≤ card.nr → l.age ≤ card.tc → MidWait l
  waits l few young = record { few = few; old = omega arith }

  module _ (h : Heard) (hs : List Heard) (w : ℕ) where
    judges_try : (v : Verdict) (l : Live S) (window : ℕ) (c : Choice) → MidTry l window c (h ∷ hs) w → IfOk (judged v l (Trying l window c)) (MidJob l (h ∷ hs) w)
    judges_try Verdict.Nothing l window c is = (refl, is)
    judges_try Verdict.Interim l window c is = (refl, waits l is.few is.young)
    judges_try (Verdict.End e) l window c is = tt

    judges_wait : (v : Verdict) (l : Live S) → MidWait l → IfOk (judged v l (Waiting l)) (MidJob l (h ∷ hs) w)
    judges_wait Verdict.Nothing l is = (refl, is)
    judges_wait Verdict.Interim l is = (refl, is)
    judges_wait (Verdict.End e) l is = tt

    -- the window is a slot shorter, or over as it was
    shortens : (l : Live S) (window : ℕ) (c : Choice) → MidChoice l window (h ∷ hs) c → MidChoice l (window - 1) (h ∷ hs) c
    shortens l window Unchosen is = tt
    shortens l window (Ahead n) is = (omega (arith, is.0), is.1, is.2)
    shortens l window Ready is = is
    shortens l window Out is = is

    times : (l live : Live S) (window : ℕ) (c : Choice) → live ≡ l → MidTry live window c (h ∷ hs) w → (window - 1 ≡ 0 → live.sends < card.nr) → (late none : Bool) → leb card.tc live.age ≡ late → IfOk (cond late (cond none (Err (end_of NoAccess live)) (Ok (Waiting live))) (Ok (Trying live (window - 1) c))) (LateJob l (h ∷ hs) w)
    times l live window c same is more true true e = tt
    times l live window c same is more true false e = (same, waits live is.few is.young)
    times l live window c same is more false none e = (
      same,
      record { few = is.few; young = leb-false _ _ e; some = is.some; grown = is.grown; spaced = λ some. omega (arith, is.spaced some); older = is.older; more = more; chose = shortens live window c is.chose },
    )

    tries_on : (l live : Live S) (window : ℕ) (c : Choice) → live ≡ l → MidTry live window c (h ∷ hs) w → (over full : Bool) → eqb (window - 1) 0 ≡ over → leb card.nr live.sends ≡ full → IfOk (cond (over && full) (Ok (Waiting live)) (timed card.tc live (window - 1) c)) (LateJob l (h ∷ hs) w)
    tries_on l live window c same is true true e f = (same, waits live is.few is.young)
    tries_on l live window c same is true false e f = times l live window c same is (λ over. leb-false _ _ f) _ _ refl
    tries_on l live window c same is false full e f = times l live window c same is (λ over. absurd (eqb-false _ _ e over)) _ _ refl

    tries : (l : Live S) (job : Job S) → MidJob l (h ∷ hs) w job → IfOk (tried card job) (LateJob l (h ∷ hs) w)
    tries l Free is = is
    tries l (Trying live window c) is = tries_on l live window c is.0 is.1 _ _ refl refl
    tries l (Waiting live) is = is

    ends-wait : (l live : Live S) → live ≡ l → MidWait live → (over : Bool) → leb card.tj live.since ≡ over → IfOk (cond over (Err (end_of EndWord.Unknown live)) (Ok (Waiting live))) (LastJob l (h ∷ hs) w)
    ends-wait l live same is true e = tt
    ends-wait l live same is false e = (same, record { few = is.few; old = is.old; soon = leb-false _ _ e })

    waits_on : (l : Live S) (job : Job S) → LateJob l (h ∷ hs) w job → IfOk (waited card job) (LastJob l (h ∷ hs) w)
    waits_on l Free is = is
    waits_on l (Trying live window c) is = is
    waits_on l (Waiting live) is = ends-wait l live is.0 is.1 _ refl

    -- an open request through a slot: where it goes on, it is a slot older
    goes_through : (verdict : S → Verdict) (l : Live S) (job : Job S) → IfOk (answered verdict (lapsed job)) (MidJob l (h ∷ hs) w) → IfOk (through verdict card job) (LastJob l (h ∷ hs) w)
    goes_through verdict l job is =
        let first = answered verdict (lapsed job) in
        going_on (LateJob l (h ∷ hs) w) (LastJob l (h ∷ hs) w) (onward first (tried card)) (waited card)
        (going_on (MidJob l (h ∷ hs) w) (LateJob l (h ∷ hs) w) first (tried card) is (tries l))
        (waits_on l)

    pub try_through : (verdict : S → Verdict) (l : Live S) (window : ℕ) (c : Choice) → out_in c ≡ false → l.since < 4294967295 → TryIs l window c hs w → IfOk (through verdict card (Trying l window c)) (LastJob (aged l) (h ∷ hs) w)
    try_through verdict l window c not_out since is = goes_through verdict (aged l) (Trying l window c) (judges_try (verdict l.service) (aged l) window (passed c) (ages l window c h hs w not_out since is))

    pub wait-through : (verdict : S → Verdict) (l : Live S) → WaitIs l → IfOk (through verdict card (Waiting l)) (LastJob (aged l) (h ∷ hs) w)
    wait-through verdict l is =
        let e = raised-one l.age (omega (arith, is.old, is.soon, range.tc_most, range.tj_most)) in
        let f = raised-one l.since (omega (arith, is.soon, range.tj_most)) in
        goes_through verdict (aged l) (Waiting l) (judges_wait (verdict l.service) (aged l) (record { few = is.few; old = omega (arith, is.old) }))
