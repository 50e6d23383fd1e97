-- Which functions invite each service, and what the network's answers mean to it.
use Rattle.std.specs.Prelude.{ℕ, Bool, true, false, cond, not, ◌&&◌, ◌||◌, ◌==◌}
use Rattle.signalling.specs.declared.content.Content.{Content}
use Rattle.signalling.specs.declared.content.Content.TheVariants.{Deaf, Data, Aloha, Reply, Go, Ahy, Ahyq, Head, Mark, Bcast, Move, Other}
use Rattle.signalling.specs.declared.content.FirstIdent.{FirstIdent}
use Rattle.signalling.specs.declared.content.FirstIdent.TheVariants.{Regi, Plain}
use Rattle.signalling.specs.declared.content.Function.{Function}
use Rattle.signalling.specs.declared.content.Function.TheVariants.{Alh, Alhs, Alhd, Alhe, Alhr, Alhx, Alhf}
use Rattle.signalling.specs.declared.content.ReplyKind.{ReplyKind}
use Rattle.signalling.specs.declared.content.ReplyKind.TheVariants.{Ack, Acki, Ackx, Ackv, Acke, Acko}
use Rattle.parts.specs.declared.verdict.EndWord.TheVariants.{Denied, Overload, Accepted, Unavailable, Granted}
use Rattle.parts.specs.declared.verdict.Verdict.{Verdict}
use Rattle.parts.specs.declared.verdict.Verdict.TheVariants.{Nothing, Interim, End}
use Rattle.parts.specs.declared.choice.AnyService.{AnyService}
use Rattle.parts.specs.declared.choice.AnyService.TheVariants.{Rqs, Rqr, Rqe}

-- RQS, a call, is invited by ALH, ALHS and ALHX (7.3.2)
abbrev pub call_invited : Function → Bool
call_invited Alh = true
call_invited Alhs = true
call_invited Alhd = false
call_invited Alhe = false
call_invited Alhr = false
call_invited Alhx = true
call_invited Alhf = false
call_invited Function.Unknown = false

-- RQR, a registration, is invited by ALH, ALHS, ALHD and ALHR (7.3.2)
abbrev pub registration_invited : Function → Bool
registration_invited Alh = true
registration_invited Alhs = true
registration_invited Alhd = true
registration_invited Alhe = false
registration_invited Alhr = true
registration_invited Alhx = false
registration_invited Alhf = false
registration_invited Function.Unknown = false

-- RQE, an emergency, is invited by every known function but fall-back mode (7.3.2)
abbrev pub emergency_invited : Function → Bool
emergency_invited Alh = true
emergency_invited Alhs = true
emergency_invited Alhd = true
emergency_invited Alhe = true
emergency_invited Alhr = true
emergency_invited Alhx = true
emergency_invited Alhf = false
emergency_invited Function.Unknown = false

-- whether an acknowledgement is one of a registration: its first ident is REGI (8.2.2.2)
abbrev pub for_registration : FirstIdent → Bool
for_registration Regi = true
for_registration (Plain ident) = false

-- ACKX denies the request, or with QUAL 1 tells of an overload (8.2.2.3)
abbrev pub rejected : ℕ → Verdict
rejected qual = cond (qual == 0) (End Denied) (End Overload)

-- what an acknowledgement of a registration means: ACKI with QUAL 1 to wait, ACK with QUAL 0 that it is accepted (8.2.2.3)
abbrev pub registration_answered : ReplyKind → ℕ → Verdict
registration_answered Ack qual = cond (qual == 0) (End Accepted) Nothing
registration_answered Acki qual = cond (qual == 1) Interim Nothing
registration_answered Ackx qual = rejected qual
registration_answered Ackv qual = Nothing
registration_answered Acke qual = Nothing
registration_answered Acko qual = Nothing

-- what an acknowledgement of a call means: ACKI to wait, ACKV that the called party is unavailable
abbrev pub call_answered : ReplyKind → ℕ → Verdict
call_answered Ack qual = Nothing
call_answered Acki qual = Interim
call_answered Ackx qual = rejected qual
call_answered Ackv qual = End Unavailable
call_answered Acke qual = Nothing
call_answered Acko qual = Nothing

-- a registration heeds acknowledgements to the own address whose first ident is REGI
abbrev pub registration_verdict : Content → ℕ → Verdict
registration_verdict Deaf own = Nothing
registration_verdict (Data rsa mine) own = Nothing
registration_verdict (Aloha function number wt d) own = Nothing
registration_verdict (Reply kind qual number first to) own = cond (to == own && for_registration first) (registration_answered kind qual) Nothing
registration_verdict (Go to partner channel number) own = Nothing
registration_verdict (Ahy ad to) own = Nothing
registration_verdict (Ahyq ipfixi to) own = Nothing
registration_verdict (Head to) own = Nothing
registration_verdict Mark own = Nothing
registration_verdict Bcast own = Nothing
registration_verdict (Move d channel) own = Nothing
registration_verdict Other own = Nothing

-- a call heeds acknowledgements to the own address with a plain first ident, and Go To Channel with the own address on either side
abbrev pub call_verdict : Content → ℕ → Verdict
call_verdict Deaf own = Nothing
call_verdict (Data rsa mine) own = Nothing
call_verdict (Aloha function number wt d) own = Nothing
call_verdict (Reply kind qual number first to) own = cond (to == own && not (for_registration first)) (call_answered kind qual) Nothing
call_verdict (Go to partner channel number) own = cond (to == own || partner == own) (End Granted) Nothing
call_verdict (Ahy ad to) own = Nothing
call_verdict (Ahyq ipfixi to) own = Nothing
call_verdict (Head to) own = Nothing
call_verdict Mark own = Nothing
call_verdict Bcast own = Nothing
call_verdict (Move d channel) own = Nothing
call_verdict Other own = Nothing

-- the choice among the three takes everything from the one chosen
abbrev pub choice_invited : AnyService → Function → Bool
choice_invited Rqs f = call_invited f
choice_invited Rqr f = registration_invited f
choice_invited Rqe f = emergency_invited f

-- RQE alone is an emergency
abbrev pub choice_emergency : AnyService → Bool
choice_emergency Rqs = false
choice_emergency Rqr = false
choice_emergency Rqe = true

abbrev pub choice_verdict : AnyService → Content → ℕ → Verdict
choice_verdict Rqs content own = call_verdict content own
choice_verdict Rqr content own = registration_verdict content own
choice_verdict Rqe content own = call_verdict content own
