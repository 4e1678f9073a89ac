-- What a message gets, from what was read of it.
use Rattle.std.proofs.Common.{◌≡◌, ℕ, ℤ, List, Vec, Some, None, sym, refl, subst, ◌∙◌, inl, inr}
use Rattle.std.specs.Prelude.{IsUtf8}
use Rattle.std.specs.Global.{Global}
use Rattle.std.proofs.lemmas.Option.{none-some}
use Rattle.serde_json.specs.Data.{Data, null}
use Rattle.serde_json.specs.Read.{read}
use Rattle.nova_lsp.specs.Codes.{no_json}
use Rattle.nova_lsp.specs.Exchanges.{IsAnswered, Gets, IsAfter, IsHandled, IsPassedOver, IsTaken, IsReplyTo}
use Rattle.nova_lsp.specs.Messages.{Sort, request, notice, response, invalid, sort_of, method_of}
use Rattle.nova_lsp.specs.Replies.{IsReply, IsRefused}
use Rattle.nova_lsp.specs.Stages.{Refuses}
use Rattle.nova_lsp.specs.declared.envelope.Reply.{Reply}
use Rattle.nova_lsp.specs.declared.envelope.Reply.TheVariants.{NoMemory}
use Rattle.nova_lsp.specs.declared.frame.Incoming.{Incoming}
use Rattle.nova_lsp.specs.declared.frame.Incoming.TheVariants as incoming
use Rattle.nova_lsp.specs.declared.stage.Stage.{Stage}

-- two readings of one content are the same
same_read : (content : List ℕ) (d e : Data) → read content ≡ Some d → read content ≡ Some e → e ≡ d
same_read content d e g h = let both : Some e ≡ Some d = sym h ∙ g in cc

pub of_read : (stage next : Stage) (content : List ℕ) (d e : Data) (reply : Reply) → read content ≡ Some e → IsHandled stage e reply next → read content ≡ Some d → IsHandled stage d reply next
of_read stage next content d e reply h is g = subst (λ x. IsHandled stage x reply next) (same_read content d e g h) is

pub of_unread : (content : List ℕ) (e : Data) (A : Type 0) → read content ≡ Some e → read content ≡ None → A
of_unread content e A h g = absurd (none-some e (sym g ∙ h))

gets_no_memory : (stage : Stage) (sort : Sort) (method : List ℕ) → Gets stage sort method NoMemory
gets_no_memory stage (request id) method = record { answer = tt; refusal = λ code h. tt }
gets_no_memory stage notice method = tt
gets_no_memory stage response method = tt
gets_no_memory stage invalid method = tt

-- a message for which there was no memory
pub no_memory : (stage : Stage) (d : Data) → IsHandled stage d NoMemory stage
no_memory stage d = record { gets = gets_no_memory stage (sort_of d) (method_of d); after = inr (refl, refl) }

pub passed_over : (stage : Stage) (code : ℤ) (reply : Reply) → IsRefused null code reply → IsPassedOver stage code reply stage
passed_over stage code reply h = record { refused = h; same = refl }

-- a message that was handled as what it is
pub handled : (stage next : Stage) (d : Data) (sort : Sort) (method : List ℕ) (reply : Reply) → sort ≡ sort_of d → method ≡ method_of d → Gets stage sort method reply → IsAfter stage sort method next → IsHandled stage d reply next
handled stage next d sort method reply e m gets after =
    record {
      gets = subst (λ s. Gets stage s (method_of d) reply) e (subst (λ x. Gets stage sort x reply) m gets);
      after = inl (subst (λ s. IsAfter stage s (method_of d) next) e (subst (λ x. IsAfter stage sort x next) m after));
    }

-- a request that is refused at once, and one that isn't
pub refused_at_once : (stage : Stage) (id : Data) (method : List ℕ) (code : ℤ) (reply : Reply) → ((other : ℤ) → Refuses stage method other → code ≡ other) → IsReply (Some id) reply → IsRefused id code reply → IsAnswered stage id method reply
refused_at_once stage id method code reply same answer refused = record { answer = answer; refusal = λ other h. subst (λ n. IsRefused id n reply) (same other h) refused }

pub heard : (stage : Stage) (id : Data) (method : List ℕ) (reply : Reply) → ((code : ℤ) → Refuses stage method code → ⊥) → IsReply (Some id) reply → IsAnswered stage id method reply
heard stage id method reply none answer = record { answer = answer; refusal = λ code h. absurd (none code h) }

-- what was read of a content is what its message gets
pub taken : (stage next : Stage) (message : Incoming) (content : Vec ℕ Global) (bytes : List ℕ) (reply : Reply) → message ≡ incoming.Content content → bytes ≡ content.items
    → (IsUtf8 bytes → (d : Data) → read bytes ≡ Some d → IsHandled stage d reply next) → ((IsUtf8 bytes → read bytes ≡ None) → IsPassedOver stage no_json reply next) → IsReplyTo stage message reply next
taken stage next message content bytes reply is e of_message of_no_json =
    let taken : IsTaken stage bytes reply next = record { message = of_message; no_json = of_no_json } in
    subst (λ x. IsReplyTo stage x reply next) (sym is) (subst (λ l. IsTaken stage l reply next) e taken)
