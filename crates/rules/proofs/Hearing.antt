-- A heard slot keeps what holds of a set beside its history.
use Rattle.std.proofs.Common.{◌≡◌, ℕ, ◌+◌, ◌<◌, Bool, true, false, cond, eqb, ◌⊎◌, List, ◌∷◌, is_some, Some, None, Ok, Err, Option, Result, unwrap_or, sym, refl, ap, ◌∙◌, subst, inl, inr, arith}
use borrow.Author.Tests.{clash}
use Rattle.std.specs.Result.{IfOk}
use Rattle.signalling.specs.declared.content.Heard.{Heard}
use Rattle.signalling.specs.declared.refusal.Refusal.{Refusal}
use Rattle.signalling.specs.Range.{heard_in_range}
use Rattle.signalling.specs.Reading.{marked, moved, leaves_free}
use Rattle.rules.specs.declared.card.Card.{Card}
use Rattle.rules.specs.declared.request.Choice.TheVariants.{Unchosen, Ahead, Ready, Out}
use Rattle.rules.specs.declared.request.Condition.{Condition}
use Rattle.rules.specs.declared.request.End.{End}
use Rattle.rules.specs.declared.request.Job.{Job}
use Rattle.rules.specs.declared.request.Job.TheVariants.{Free, Trying, Waiting}
use Rattle.rules.specs.declared.request.Live.{Live}
use Rattle.rules.specs.declared.station.State.{State}
use Rattle.rules.specs.declared.station.Stay.{Stay}
use Rattle.rules.specs.declared.station.Station.{Station}
use Rattle.rules.specs.Calls.{if_answered, if_granted, slot_answer, slotted}
use Rattle.rules.specs.Choosing.{draws, first_try, permitted, choosing}
use Rattle.rules.specs.Histories.{Event, slot, Presence, away, present, slots_of, holds, channel_in}
use Rattle.rules.specs.Jobs.{lost, aged, through}
use Rattle.rules.specs.Law.{Fits}
use Rattle.rules.specs.Meanings.{Meaning, Lawful}
use Rattle.rules.specs.Slots.{progressed, left, end_in, job_in, source_in, is_out, out_in, state_of, heard_by, told_by}
use Rattle.rules.specs.Stations.{followed}
use Rattle.rules.proofs.Cards.{Ranged}
use Rattle.rules.proofs.Chosen.{DoneJob, chooses}
use Rattle.rules.proofs.Counts.{raised-one}
use Rattle.rules.proofs.Stays.{StayIs, PlaceIs, follows_as}
use Rattle.rules.proofs.Tallies.{Tally, LiveBy, tally, Holds, Next, young_enough, try_young, wait-young}
use Rattle.rules.proofs.Tries.{LastJob, try_through, wait-through}

-- the numbers of a history after one more granted slot call
abbrev ticked : {S : Type 0} → Tally S → Presence → Option End → Tally S
ticked t p end = record {
  request = cond (is_some end) None t.request;
  age = cond (is_some t.request) (t.age + 1) t.age;
  sends = t.sends;
  since = cond (is_some t.request) (t.since + 1) t.since;
  wait = t.wait;
  stay = p;
  out = t.out;
  handed = t.handed;
  sent_back = t.sent_back;
  held_back = t.held_back;
  begun = t.begun;
  ended = cond (is_some end) (t.ended + 1) t.ended;
}

module _ {D S : Type 0} (m : Meaning D S) (lawful : Lawful m) (card : Card) (range : Ranged card) (t : Tally S) where
  -- a set that is not out agrees with the numbers of its history
  record Ready-to-hear (s : Station) (job : Job S) (source : D) : Type 0 where
    holds : Holds m card range t (record { station = s; job = job; source = source })
    not_out : is_out job ≡ false

  -- what holds after the slot: the numbers, and that the state told fits
  record Told-so (p : Presence) (end : Option End) (s : Station) (job : Job S) (source : D) : Type 0 where
    holds : Holds m card range (ticked t p end) (record { station = s; job = job; source = source })
    fits : Fits (state_of s.stay job) p (ticked t p end).request

  -- a request that ends in the slot, wherever the set then is
  ended_so : (l : Live S) (e : End) (p : Presence) (s s' : Station) (job : Job S) (source source' : D) → Ready-to-hear s job source → LiveBy l t → l.age < card.tc + card.tj → PlaceIs card s'.stay p → Fits {S = S} (state_of {S = S} s'.stay Free) p None → Told-so p (Some e) s' Free source'
  ended_so l e p s s' job source source' r is young place fits =
      let k = r.holds in
      record {
        holds = record {
          place = place;
          job = refl;
          out = k.out ∙ r.not_out;
          permits = k.permits;
          requests = grind (arith, k.requests, is.service);
          most = k.most;
          soon = grind (arith, is.service, young_enough m card range l t is young);
        };
        fits = fits;
      }

  -- no request is open: the numbers stand still
  idle-so : (p : Presence) (s s' : Station) (source source' : D) → Ready-to-hear s Free source → PlaceIs card s'.stay p → Fits (state_of {S = S} s'.stay Free) p t.request → Told-so p None s' Free source'
  idle-so p s s' source source' r place fits =
      let k = r.holds in
      record {
        holds = record { place = place; job = k.job; out = k.out; permits = k.permits; requests = k.requests; most = k.most; soon = grind (arith, k.soon, k.job) };
        fits = fits;
      }

  -- the stay is over
  lost-so : (s s' : Station) (job : Job S) (source : D) → Ready-to-hear s job source → s'.stay ≡ None → PlaceIs card s'.stay away → Fits {S = S} (state_of {S = S} s'.stay Free) away None → Told-so away (end_in (lost job)) s' (left (lost job)) source
  lost-so s s' Free source r gone place fits = idle-so away s s' source source r place fits
  lost-so s s' (Trying l window c) source r gone place fits = let k = r.holds in ended_so l _ away s s' (Trying l window c) source source r k.job.0 (try_young m card range l t window c k.job.1) place fits
  lost-so s s' (Waiting l) source r gone place fits = let k = r.holds in ended_so l _ away s s' (Waiting l) source source r k.job.0 (wait-young m card range l k.job.1) place fits

-- no permit is out once a slot was heard
next_not_out : (near free : Bool) (n : ℕ) → out_in (cond near (cond free Ready Unchosen) (Ahead n)) ≡ false
next_not_out near free n = grind arith

drawn_not_out : (free d f : Bool) (n : ℕ) → out_in (permitted free (cond d (Ahead n) (cond f (Ahead 1) Unchosen))) ≡ false
drawn_not_out free d f n = grind arith

may_not_out : (free may d f : Bool) (n : ℕ) → out_in (permitted free (cond may (cond d (Ahead n) (cond f (Ahead 1) Unchosen)) Unchosen)) ≡ false
may_not_out free may d f n = grind arith

module _ {D S : Type 0} (m : Meaning D S) (lawful : Lawful m) (card : Card) (range : Ranged card) (t : Tally S) (h : Heard) (st : Stay) (is : StayIs card st (h ∷ slots_of t.stay)) (channel : ℕ) where
  abbrev here : Station
  here = record { channel = channel; stay = Some st }

  abbrev now_present : Presence
  now_present = present (h ∷ slots_of t.stay)

  abbrev choose : D → Job S → Job S
  choose source job = choosing m card.address (leaves_free h.content card.address) source job st (marked h.content)

  chosen_not_out : (source : D) (l : Live S) (w : ℕ) (job : Job S) → LastJob m card range l (h ∷ slots_of t.stay) w job → is_out (choose source job) ≡ false
  chosen_not_out source l w Free last = refl
  chosen_not_out source l w (Trying live window Unchosen) last = may_not_out (leaves_free h.content card.address) (eqb window 0) (draws m card.address live.service st (marked h.content)) (first_try m card.address live st) (m.ready source (marked h.content))
  chosen_not_out source l w (Trying live window (Ahead n)) last = next_not_out (eqb n 1) (leaves_free h.content card.address) n
  chosen_not_out source l w (Trying live window Ready) last = absurd last.1.chose
  chosen_not_out source l w (Trying live window Out) last = absurd last.1.chose
  chosen_not_out source l w (Waiting live) last = refl

  -- the request kept is a slot older, as the history's is
  older_so : (l live : Live S) → LiveBy l t → l.age < card.tc + card.tj → live ≡ aged l → LiveBy live (ticked t now_present None)
  older_so l live by young e =
      let age = raised-one l.age (omega (arith, young, range.tc_most, range.tj_most)) in
      let since = raised-one l.since (omega (arith, young, by.within, range.tc_most, range.tj_most)) in
      let same-age = ap (λ (x : Live S). x.age) e in
      let same-since = ap (λ (x : Live S). x.since) e in
      record {
        service = by.service ∙ ap (λ (x : Live S). Some x.service) (sym e);
        age = grind (arith, age, same-age, by.age, by.service);
        sends = ap (λ (x : Live S). x.sends) e ∙ by.sends;
        since = grind (arith, since, same-since, by.since, by.service);
        within = omega (arith, age, since, same-age, same-since, by.within);
      }

  fits-open : (s : S) (state : State) (request : Option S) → request ≡ Some s → (state ≡ State.Trying) ⊎ (state ≡ State.Waiting) → Fits state now_present request
  fits-open s state request e told = subst (λ (o : Option S). Fits state now_present o) (sym e) told

  done_so : (l : Live S) (s : Station) (was job : Job S) (source source' : D) → Ready-to-hear m lawful card range t s was source → LiveBy l t → l.age < card.tc + card.tj → is_out job ≡ false → DoneJob m lawful card range h (slots_of t.stay) st is (aged l) t.wait job → Told-so m lawful card range t now_present None here job source'
  done_so l s was Free source source' r by young not_out done = absurd done
  done_so l s was (Trying live window c) source source' r by young not_out done =
      let k = r.holds in
      record {
        holds = record {
          place = is;
          job = (older_so l live by young done.0, done.1);
          out = k.out ∙ r.not_out ∙ sym not_out;
          permits = k.permits;
          requests = k.requests;
          most = k.most;
          soon = grind (arith, by.service, young_enough m card range l t by young);
        };
        fits = fits-open l.service _ _ by.service (inl refl);
      }
  done_so l s was (Waiting live) source source' r by young not_out done =
      let k = r.holds in
      record {
        holds = record {
          place = is;
          job = (older_so l live by young done.0, done.1);
          out = k.out ∙ r.not_out;
          permits = k.permits;
          requests = k.requests;
          most = k.most;
          soon = grind (arith, by.service, young_enough m card range l t by young);
        };
        fits = fits-open l.service _ _ by.service (inr refl);
      }

  -- an open request through the slot: ended, or chosen for
  through_so : (l : Live S) (s : Station) (was : Job S) (source source' : D) (p : Result (Job S) End) → Ready-to-hear m lawful card range t s was source → LiveBy l t → l.age < card.tc + card.tj → IfOk p (LastJob m card range (aged l) (h ∷ slots_of t.stay) t.wait) → Told-so m lawful card range t now_present (end_in p) here (choose source (left p)) source'
  through_so l s was source source' (Err e) r by young last = ended_so m lawful card range t l e now_present s here was source source' r by young is refl
  through_so l s was source source' (Ok job) r by young last = done_so l s was (choose source job) source source' r by young (chosen_not_out source (aged l) t.wait job last) (chooses m lawful card range h (slots_of t.stay) st is source (aged l) t.wait job last)

  stays_so : (s : Station) (job : Job S) (source source' : D) → Ready-to-hear m lawful card range t s job source → Told-so m lawful card range t now_present (end_in (through (λ v. m.verdict v h.content card.address) card job)) here (choose source (left (through (λ v. m.verdict v h.content card.address) card job))) source'
  stays_so s Free source source' r = idle-so m lawful card range t now_present s here source source' r is (subst (λ (o : Option S). Fits State.Idle now_present o) (sym r.holds.job) refl)
  stays_so s (Trying l window c) source source' r =
      let j = r.holds.job in
      let young = try_young m card range l t window c j.1 in
      through_so l s (Trying l window c) source source' (through (λ v. m.verdict v h.content card.address) card (Trying l window c)) r j.0 young
      (try_through m card range h (slots_of t.stay) t.wait (λ v. m.verdict v h.content card.address) l window c r.not_out (omega (arith, young, j.0.within, range.tc_most, range.tj_most)) j.1)
  stays_so s (Waiting l) source source' r =
      let j = r.holds.job in
      through_so l s (Waiting l) source source' (through (λ v. m.verdict v h.content card.address) card (Waiting l)) r j.0 (wait-young m card range l j.1)
      (wait-through m card range h (slots_of t.stay) t.wait (λ v. m.verdict v h.content card.address) l j.1)

module _ {D S : Type 0} (m : Meaning D S) (lawful : Lawful m) (card : Card) (range : Ranged card) (start : ℕ) (past : List (Event S)) where
  abbrev heard_tally : Tally S
  heard_tally = tally m card range past

  -- the stay after the slot, by whether the code keeps the set active and whether a move orders it away
  abbrev after-slot : Heard → Bool → Bool → Presence
  after-slot h stays orders = cond stays (cond orders away (present (h ∷ slots_of heard_tally.stay))) away

  told-so : (h : Heard) (s : Station) (ch : ℕ) (job : Job S) (source : D) (st : Option Stay) (stays orders : Bool) → Ready-to-hear m lawful card range heard_tally s job source → PlaceIs card st (after-slot h stays orders) → Told-so m lawful card range heard_tally (after-slot h stays orders) (end_in (progressed m card st job h.content)) (record { channel = ch; stay = st }) (job_in m card source st (progressed m card st job h.content) h.content) (source_in m card source st (progressed m card st job h.content) h.content)
  told-so h s ch job source None true true r place = lost-so m lawful card range heard_tally s (record { channel = ch; stay = None }) job source r refl tt refl
  told-so h s ch job source None true false r place = absurd place
  told-so h s ch job source None false orders r place = lost-so m lawful card range heard_tally s (record { channel = ch; stay = None }) job source r refl tt refl
  told-so h s ch job source (Some st) true true r place = absurd place
  told-so h s ch job source (Some st) true false r place = stays_so m lawful card range heard_tally h st place ch s job source _ r
  told-so h s ch job source (Some st) false orders r place = absurd place

  module _ (c : Condition D S) (k : Holds m card range heard_tally c) (on : c.station.channel ≡ channel_in m.accepts card start past) where
    heard_so : (h : Heard) → is_out c.job ≡ false → Next m card range start (slot h (Ok (told_by m card c h))) past (heard_by m card c h)
    heard_so h not_out =
        let p = heard_tally.stay in
        let step = follows_as m.accepts card range.ts_least c.station p h k.place in
        let stays = holds m.accepts card.ts p h.code in
        let orders = is_some (moved h.content card.address) in
        let told = told-so h c.station (followed m.accepts card c.station h).channel c.job c.source (followed m.accepts card c.station h).stay stays orders (record { holds = k; not_out = not_out }) step.place in
        record {
          holds = told.holds;
          channel = step.tuned_to ∙ ap (λ ch. cond stays (unwrap_or (moved h.content card.address) ch) ch) on;
          lawful = λ e. absurd (clash e);
          true_answer = told.fits;
        }

    slot_refused : (h : Heard) (r : Refusal) → Next m card range start (slot h (Err r)) past c
    slot_refused h r = record { holds = k; channel = on; lawful = λ e. absurd (clash e); true_answer = tt }

    slot-by : (h : Heard) (out : Bool) (judged : Result (Unit {0}) Refusal) → is_out c.job ≡ out → Next m card range start (slot h (if_answered (cond out (Err Refusal.PermitOut) judged) (told_by m card c h))) past (if_granted (cond out (Err Refusal.PermitOut) judged) (heard_by m card c h) c)
    slot-by h true judged e = slot_refused h Refusal.PermitOut
    slot-by h false (Ok x) e = heard_so h e
    slot-by h false (Err r) e = slot_refused h r

    pub slot_next : (h : Heard) → Next m card range start (slot h (slot_answer m card c h)) past (slotted m card c h)
    slot_next h = slot-by h (is_out c.job) (heard_in_range h) refl
