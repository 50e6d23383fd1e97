-- The host's calls keep what holds of a set beside its history.
use Rattle.std.proofs.Common.{◌≡◌, ℕ, ◌+◌, ◌≤◌, false, cond, List, is_some, Some, None, Ok, Err, Option, sym, refl, ap, ◌∙◌, arith}
use borrow.Author.Tests.{clash}
use Rattle.signalling.specs.declared.content.Function.TheVariants.{Alhe}
use Rattle.signalling.specs.declared.content.Noted.{Noted}
use Rattle.signalling.specs.declared.refusal.Refusal.{Refusal}
use Rattle.rules.specs.declared.card.Card.{Card}
use Rattle.rules.specs.declared.request.Choice.TheVariants.{Unchosen, Ready, Out}
use Rattle.rules.specs.declared.request.Job.{Job}
use Rattle.rules.specs.declared.request.Job.TheVariants.{Free, Trying, Waiting}
use Rattle.rules.specs.declared.request.Live.{Live}
use Rattle.rules.specs.declared.station.Stay.{Stay}
use Rattle.rules.specs.declared.station.Station.{Station}
use Rattle.rules.specs.Calls.{wait_now, sent_once, withdrawn}
use Rattle.rules.specs.Histories.{Event, tune, begin, take, sent, held, cancel, Presence, away, present, slots_of, noted_in, marked_back, channel_in}
use Rattle.rules.specs.Jobs.{lost, opened, raised}
use Rattle.rules.specs.Law.{Reached, NotOnlyAlhe, Transmitted}
use Rattle.rules.specs.Meanings.{Meaning, Lawful}
use Rattle.rules.specs.Slots.{end_in, is_out}
use Rattle.rules.specs.Stations.{seeking_on}
use Rattle.rules.proofs.Cards.{Ranged}
use Rattle.rules.proofs.Counts.{raised-one, wait-small}
use Rattle.rules.proofs.Stays.{PlaceIs}
use Rattle.rules.proofs.Tallies.{Tally, LiveBy, tally, Holds, Next}
use Rattle.rules.proofs.Tries.{ReachedBy}

-- a stay in which a slot was reached is there, and its WAIT is the one noted in it
wait_there : (card : Card) (st : Option Stay) (p : Presence) (marker : ℕ) → PlaceIs card st p → marker + 1 ≤ marked_back (slots_of p) marker → wait_now st ≡ (noted_in card.nw (slots_of p)).wait
wait_there card None away marker is covers = absurd (omega (arith, covers))
wait_there card None (present hs) marker is covers = absurd is
wait_there card (Some st) away marker is covers = absurd is
wait_there card (Some st) (present hs) marker is covers = ap (λ (n : Noted). n.wait) is.notes

module _ {D S : Type 0} (m : Meaning D S) (lawful : Lawful m) (card : Card) (range : Ranged card) (start : ℕ) (past : List (Event S)) where
  abbrev pub now_tally : Tally S
  now_tally = tally m card range past

  -- the set in a condition agrees with the history up to now
  pub record Agrees (s : Station) (job : Job S) (source : D) : Type 0 where
    pub holds : Holds m card range now_tally (record { station = s; job = job; source = source })
    pub channel : s.channel ≡ channel_in m.accepts card start past

  abbrev pub After : Event S → Station → Job S → D → Type 0
  After e s job source = Next m card range start e past (record { station = s; job = job; source = source })

  -- a refused call, and a take without a permit, keep everything
  module _ (s : Station) (job : Job S) (source : D) (a : Agrees s job source) where
    pub tune_refused : (ch : ℕ) (r : Refusal) → After (tune ch (Err r)) s job source
    tune_refused ch r = record { holds = a.holds; channel = a.channel; lawful = λ e. absurd (clash e); true_answer = tt }

    pub begin_refused : (v : S) (r : Refusal) → After (begin v (Err r)) s job source
    begin_refused v r = record { holds = a.holds; channel = a.channel; lawful = λ e. absurd (clash e); true_answer = tt }

    pub take_empty : After (take None) s job source
    take_empty = record { holds = a.holds; channel = a.channel; lawful = λ e. absurd (clash e); true_answer = tt }

    pub sent_refused : (p : Option ℕ) (r : Refusal) → After (sent p (Err r)) s job source
    sent_refused p r = record { holds = a.holds; channel = a.channel; lawful = λ e. absurd (clash e); true_answer = tt }

    pub held_refused : (p : Option ℕ) (r : Refusal) → After (held p (Err r)) s job source
    held_refused p r = record { holds = a.holds; channel = a.channel; lawful = λ e. absurd (clash e); true_answer = tt }

    pub cancel_refused : (r : Refusal) → After (cancel (Err r)) s job source
    cancel_refused r = record { holds = a.holds; channel = a.channel; lawful = λ e. absurd (clash e); true_answer = tt }

  -- an end that a host's call answers leaves no request open
  ended_once : (l : Live S) (b n : ℕ) → LiveBy l now_tally → b ≡ n + cond (is_some now_tally.request) 1 0 → b ≡ (n + 1) + 0
  ended_once l b n is e = grind (arith, e, is.service)

  pub tune-granted : (ch : ℕ) (s : Station) (job : Job S) (source : D) → is_out job ≡ false → Agrees s job source → After (tune ch (Ok (end_in (lost job)))) (seeking_on ch) Free source
  tune-granted ch s Free source not_out a =
      let k = a.holds in
      record { holds = record { place = tt; job = k.job; out = k.out; permits = k.permits; requests = k.requests; most = k.most; soon = k.soon }; channel = refl; lawful = λ e. absurd (clash e); true_answer = tt }
  tune-granted ch s (Trying l window c) source not_out a =
      let k = a.holds in
      record {
        holds = record { place = tt; job = refl; out = k.out ∙ not_out; permits = k.permits; requests = ended_once l _ _ k.job.0 k.requests; most = k.most; soon = k.soon };
        channel = refl;
        lawful = λ e. absurd (clash e);
        true_answer = tt;
      }
  tune-granted ch s (Waiting l) source not_out a =
      let k = a.holds in
      record {
        holds = record { place = tt; job = refl; out = k.out; permits = k.permits; requests = ended_once l _ _ k.job.0 k.requests; most = k.most; soon = k.soon };
        channel = refl;
        lawful = λ e. absurd (clash e);
        true_answer = tt;
      }

  pub cancel-granted : (s : Station) (job : Job S) (source : D) → is_out job ≡ false → Agrees s job source → After (cancel (withdrawn job)) s Free source
  cancel-granted s Free source not_out a = cancel_refused s Free source a Refusal.NoRequest
  cancel-granted s (Trying l window c) source not_out a =
      let k = a.holds in
      record {
        holds = record { place = k.place; job = refl; out = k.out ∙ not_out; permits = k.permits; requests = ended_once l _ _ k.job.0 k.requests; most = k.most; soon = k.soon };
        channel = a.channel;
        lawful = λ e. absurd (clash e);
        true_answer = tt;
      }
  cancel-granted s (Waiting l) source not_out a =
      let k = a.holds in
      record {
        holds = record { place = k.place; job = refl; out = k.out; permits = k.permits; requests = ended_once l _ _ k.job.0 k.requests; most = k.most; soon = k.soon };
        channel = a.channel;
        lawful = λ e. absurd (clash e);
        true_answer = tt;
      }

  pub begin-granted : (v : S) (s : Station) (source : D) → Agrees s Free source → After (begin v (Ok tt)) s (Trying (opened v) 0 Unchosen) source
  begin-granted v s source a =
      let k = a.holds in
      record {
        holds = record {
          place = k.place;
          job = (
            record { service = refl; age = refl; sends = refl; since = refl; within = omega arith },
            record { few = omega arith; young = omega (arith, range.tc_least); spaced = λ sent. absurd (omega (arith, sent)); older = λ sent. absurd (omega (arith, sent)); more = λ over. omega (arith, range.nr_least); chose = tt },
          );
          out = k.out;
          permits = k.permits;
          requests = grind (arith, k.requests, k.job);
          most = omega arith;
          soon = omega arith;
        };
        channel = a.channel;
        lawful = λ e. absurd (clash e);
        true_answer = tt;
      }

  pub take-ready : (s : Station) (l : Live S) (window : ℕ) (source : D) → Agrees s (Trying l window Ready) source → After (take (Some card.address)) s (Trying l window Out) source
  take-ready s l window source a =
      let k = a.holds in
      let is = k.job.1 in
      record {
        holds = record {
          place = k.place;
          job = (k.job.0, record { few = is.few; young = is.young; spaced = is.spaced; older = is.older; more = is.more; chose = is.chose });
          out = refl;
          permits = grind (arith, k.permits, k.out);
          requests = k.requests;
          most = k.most;
          soon = k.soon;
        };
        channel = a.channel;
        lawful = λ e. absurd (clash e);
        true_answer = tt;
      }

  -- a slot within reach of the request kept is within reach of the history's
  reached_so : (l : Live S) → LiveBy l now_tally → ReachedBy m card range l (slots_of now_tally.stay) 1 → Reached card.address card.nw (m.invites l.service) (m.emergency l.service) (slots_of now_tally.stay) now_tally.age now_tally.sends now_tally.since 1
  reached_so l is r =
      record {
        marker = r.marker;
        division = r.division;
        later = r.later;
        since_begin = omega (arith, r.since_begin, is.age);
        covers = r.covers;
        inviting = r.inviting;
        admitted = r.admitted;
        fresh = λ some. omega (arith, r.fresh (omega (arith, some, is.sends)), is.since);
      }

  -- a frame that invites an ordinary service was not marked under ALHE
  not_alhe : (l : Live S) → LiveBy l now_tally → ReachedBy m card range l (slots_of now_tally.stay) 1 → (s : S) → now_tally.request ≡ Some s → m.emergency s ≡ false → NotOnlyAlhe card.nw (slots_of now_tally.stay)
  not_alhe l is r s e ordinary =
      let same : s ≡ l.service = cc is.service in
      record {
        marker = r.marker;
        covers = r.covers;
        otherwise = λ alhe. clash (sym (lawful.ordinary s ordinary) ∙ ap (λ (x : S). m.invites x Alhe) same ∙ ap (m.invites l.service) (sym alhe) ∙ r.inviting);
      }

  transmitted : (s : Station) (l : Live S) (window : ℕ) (source : D) → Agrees s (Trying l window Out) source → Transmitted m card past
  transmitted s l window source a =
      let k = a.holds in
      let live = k.job.0 in
      let is = k.job.1 in
      let reach = is.chose.1 in
      record {
        in_open_slot = record { service = l.service; requested = live.service; reached = reached_so l live reach; free = is.chose.2 };
        ordinary = not_alhe l live reach;
        spaced = λ some. omega (arith, is.spaced (omega (arith, some, live.sends)), is.chose.0, live.since);
      }

  pub sent-granted : (p : Option ℕ) (s : Station) (l : Live S) (window : ℕ) (source : D) → Agrees s (Trying l window Out) source → After (sent p (Ok tt)) s (Trying (sent_once l) (raised (raised (wait_now s.stay))) Unchosen) source
  sent-granted p s l window source a =
      let k = a.holds in
      let live = k.job.0 in
      let is = k.job.1 in
      let reach = is.chose.1 in
      let noted : wait_now s.stay ≡ (noted_in card.nw (slots_of now_tally.stay)).wait = wait_there card s.stay now_tally.stay reach.marker k.place reach.covers in
      let small = wait-small card.nw range.nw_most (slots_of now_tally.stay) in
      let room = is.more is.chose.0 in
      let one : raised l.sends ≡ l.sends + 1 = raised-one _ (omega (arith, room, range.nr_most)) in
      let first : raised (wait_now s.stay) ≡ wait_now s.stay + 1 = raised-one _ (omega (arith, small, noted)) in
      let second : raised (raised (wait_now s.stay)) ≡ raised (wait_now s.stay) + 1 = raised-one _ (omega (arith, small, noted, first)) in
      record {
        holds = record {
          place = k.place;
          job = (
            record { service = live.service; age = live.age; sends = omega (arith, one, live.sends); since = refl; within = omega arith },
            record { few = omega (arith, one, room); young = is.young; spaced = λ some. omega (arith, noted, first, second); older = λ some. omega (arith, reach.since_begin); more = λ over. absurd (omega (arith, over, first, second)); chose = tt },
          );
          out = refl;
          permits = grind (arith, k.permits, k.out);
          requests = k.requests;
          most = omega (arith, room, live.sends);
          soon = k.soon;
        };
        channel = a.channel;
        lawful = λ e. transmitted s l window source a;
        true_answer = tt;
      }

  pub held-granted : (p : Option ℕ) (s : Station) (l : Live S) (window : ℕ) (source : D) → Agrees s (Trying l window Out) source → After (held p (Ok tt)) s (Trying l window Unchosen) source
  held-granted p s l window source a =
      let k = a.holds in
      let is = k.job.1 in
      record {
        holds = record {
          place = k.place;
          job = (k.job.0, record { few = is.few; young = is.young; spaced = is.spaced; older = is.older; more = is.more; chose = tt });
          out = refl;
          permits = grind (arith, k.permits, k.out);
          requests = k.requests;
          most = k.most;
          soon = k.soon;
        };
        channel = a.channel;
        lawful = λ e. absurd (clash e);
        true_answer = tt;
      }
