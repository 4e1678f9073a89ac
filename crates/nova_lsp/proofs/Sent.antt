-- One more message, and the reply that was written for it.
use Rattle.std.proofs.Common.{◌≡◌, ℕ, List, [], ◌∷◌, ◌++◌, Option, refl, sym, ap, ◌∙◌, append-nil, subst}
use Rattle.std.specs.List.{flat_map}
use Rattle.std.specs.Io.KnownBytes.{Consumes, IsAtEnd}
use Rattle.std.proofs.KnownBytes.{Consumes-nil, Consumes-trans}
use Rattle.std.proofs.lemmas.List.{flat_map_more}
use Rattle.nova_lsp.specs.Frames.{AppendsReply}
use Rattle.nova_lsp.specs.Reading.{IsRead}
use Rattle.nova_lsp.specs.Exchanges.{IsReplyTo, IsEndBy, Exchange, IsExchange, AreExchanges, IsSession, IsCutOff, Served}
use Rattle.nova_lsp.specs.Stages.{IsGoing}
use Rattle.nova_lsp.specs.declared.envelope.Reply.{Reply}
use Rattle.nova_lsp.specs.declared.frame.Incoming.{Incoming}
use Rattle.nova_lsp.specs.declared.frame.Incoming.TheVariants as incoming
use Rattle.nova_lsp.specs.declared.server.Ended.{Ended}
use Rattle.nova_lsp.specs.declared.stage.Stage.{Stage}
use Rattle.nova_lsp.specs.declared.stage.Stage.TheVariants as stages

pub none_yet : (input : Option (List ℕ)) (old : List ℕ) → IsSession stages.New input input old old
none_yet input old = record { exchanges = []; each = refl; came = Consumes-nil input; went = sym (append-nil old) }

one_more : (es : List Exchange) (e : Exchange) (first middle last : Stage) → AreExchanges first es middle → IsExchange middle e last → AreExchanges first (es ++ e ∷ []) last
one_more [] e first middle last same is = (last, subst (λ s. IsExchange s e last) same is, refl)
one_more (x ∷ xs) e first middle last all is = (all.0, all.1, one_more xs e all.0 middle last all.2 is)

pub more : (input middle left : Option (List ℕ)) (old written new front : List ℕ) (stage next : Stage) (message : Incoming) (reply : Reply)
    → IsSession stage input middle old written → IsGoing stage → Consumes middle left front → IsRead front message → IsReplyTo stage message reply next → AppendsReply reply written new
    → IsSession next input left old new
more input middle left old written new front stage next message reply s going taken is answers sent =
    let e : Exchange = record { came = front; went = sent.0 } in
    let is_one : IsExchange stage e next = record { going = going; message = message; read = is; reply = reply; answers = answers; written = sent.1 } in
    let came = λ (x : Exchange). x.came in
    let went = λ (x : Exchange). x.went in
    record {
      exchanges = s.exchanges ++ e ∷ [];
      each = one_more s.exchanges e stages.New stage next s.each is_one;
      came = subst (Consumes input left) (flat_map_more came [] s.exchanges e) (Consumes-trans input middle left (flat_map came s.exchanges) front s.came taken);
      went = sent.2 ∙ ap (λ l. l ++ sent.0) s.went ∙ flat_map_more went old s.exchanges e;
    }

-- what ends a session without an answer
pub ended : (input middle left : Option (List ℕ)) (old new front : List ℕ) (stage : Stage) (message : Incoming) (e : Ended)
    → IsSession stage input middle old new → Consumes middle left front → IsRead front message → (message ≡ incoming.End → IsAtEnd left) → IsEndBy message e → Served e input left old new
ended input middle left old new front stage (incoming.Content content) e s taken is at_end by = absurd by
ended input middle left old new front stage incoming.NoLength e s taken is at_end by = absurd by
ended input middle left old new front stage incoming.TooLong e s taken is at_end by = absurd by
ended input middle left old new front stage incoming.NoMemory e s taken is at_end by = absurd by
ended input middle left old new front stage incoming.End e s taken is at_end by =
    let cut : IsCutOff input left old new = record { last = stage; middle = middle; session = s; rest = front; came = taken; cut = is; end = at_end refl } in
    subst (λ x. Served x input left old new) (sym by) cut
ended input middle left old new front stage incoming.Failed e s taken is at_end by = subst (λ x. Served x input left old new) (sym by) tt
