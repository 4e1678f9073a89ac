-- What a session is: messages that came, one after the other, and what was written for each.
use Rattle.std.specs.Prelude.{◌≡◌, ◌⊎◌, ℕ, ℤ, Option, Some, None, List, [], ◌∷◌, ◌++◌, IsUtf8, flat_map, ⊤}
use Rattle.std.specs.Io.KnownBytes.{Consumes, IsAtEnd}
use Rattle.serde_json.specs.Data.{Data, null}
use Rattle.serde_json.specs.Read.{read}
use Rattle.nova_lsp.specs.Codes.{no_json, invalid_request}
use Rattle.nova_lsp.specs.Frames.{IsWritten}
use Rattle.nova_lsp.specs.Messages.{Sort, request, notice, response, invalid, sort_of, method_of}
use Rattle.nova_lsp.specs.Reading.{IsRead, IsCut}
use Rattle.nova_lsp.specs.Replies.{IsReply, IsRefused}
use Rattle.nova_lsp.specs.Stages.{IsAfterRequest, IsAfterNotice, Refuses, IsGoing}
use Rattle.nova_lsp.specs.declared.envelope.Reply.{Reply}
use Rattle.nova_lsp.specs.declared.envelope.Reply.TheVariants as replies
use Rattle.nova_lsp.specs.declared.frame.Incoming.{Incoming}
use Rattle.nova_lsp.specs.declared.frame.Incoming.TheVariants as incoming
use Rattle.nova_lsp.specs.declared.server.Ended.{Ended}
use Rattle.nova_lsp.specs.declared.server.Ended.TheVariants as endings
use Rattle.nova_lsp.specs.declared.stage.Stage.{Stage}
use Rattle.nova_lsp.specs.declared.stage.Stage.TheVariants as stages

-- what a request gets: one answer, which is a refusal where the stage or the method asks for one
pub record IsAnswered (stage : Stage) (id : Data) (method : List ℕ) (reply : Reply) : Type 0 where
  pub answer : IsReply (Some id) reply
  pub refusal : (code : ℤ) → Refuses stage method code → IsRefused id code reply

-- what a message gets
abbrev pub Gets : Stage → Sort → List ℕ → Reply → Type 0
Gets stage (request id) method reply = IsAnswered stage id method reply
Gets stage notice method reply = IsReply None reply
Gets stage response method reply = IsReply None reply
Gets stage invalid method reply = IsRefused null invalid_request reply

-- the stage after a message
abbrev pub IsAfter : Stage → Sort → List ℕ → Stage → Type 0
IsAfter stage (request id) method next = IsAfterRequest stage method next
IsAfter stage notice method next = IsAfterNotice stage method next
IsAfter stage response method next = next ≡ stage
IsAfter stage invalid method next = next ≡ stage

-- A message gets what it wants, and the session goes on to the next stage. Without memory for it, it may be passed over.
pub record IsHandled (stage : Stage) (message : Data) (reply : Reply) (next : Stage) : Type 0 where
  pub gets : Gets stage (sort_of message) (method_of message) reply
  pub after : IsAfter stage (sort_of message) (method_of message) next ⊎ ((reply ≡ replies.NoMemory) × (next ≡ stage))

-- a refusal without an id, after which the session is where it was
pub record IsPassedOver (stage : Stage) (code : ℤ) (reply : Reply) (next : Stage) : Type 0 where
  pub refused : IsRefused null code reply
  pub same : next ≡ stage

-- what the content of a message gets
pub record IsTaken (stage : Stage) (content : List ℕ) (reply : Reply) (next : Stage) : Type 0 where
  pub message : IsUtf8 content → (d : Data) → read content ≡ Some d → IsHandled stage d reply next
  pub no_json : (IsUtf8 content → read content ≡ None) → IsPassedOver stage no_json reply next

-- the reply to what came, and the stage after it
abbrev pub IsReplyTo : Stage → Incoming → Reply → Stage → Type 0
IsReplyTo stage (incoming.Content content) reply next = IsTaken stage content.items reply next
IsReplyTo stage incoming.NoLength reply next = IsPassedOver stage invalid_request reply next
IsReplyTo stage incoming.TooLong reply next = IsPassedOver stage invalid_request reply next
IsReplyTo stage incoming.NoMemory reply next = (reply ≡ replies.NoMemory) × (next ≡ stage)
IsReplyTo stage incoming.End reply next = ⊥
IsReplyTo stage incoming.Failed reply next = ⊥

-- what ends a session without an answer
abbrev pub IsEndBy : Incoming → Ended → Type 0
IsEndBy (incoming.Content content) ended = ⊥
IsEndBy incoming.NoLength ended = ⊥
IsEndBy incoming.TooLong ended = ⊥
IsEndBy incoming.NoMemory ended = ⊥
IsEndBy incoming.End ended = ended ≡ endings.InputEnded
IsEndBy incoming.Failed ended = ended ≡ endings.Failed

-- bytes that came and bytes that went
pub record Exchange : Type 0 where
  pub came : List ℕ
  pub went : List ℕ

-- a message, and what was written for it
pub record IsExchange (stage : Stage) (e : Exchange) (next : Stage) : Type 0 where
  pub going : IsGoing stage
  pub message : Incoming
  pub read : IsRead e.came message
  pub reply : Reply
  pub answers : IsReplyTo stage message reply next
  pub written : IsWritten reply e.went

-- each of these is one, from one stage to another
abbrev pub AreExchanges : Stage → List Exchange → Stage → Type 0
AreExchanges stage [] last = last ≡ stage
AreExchanges stage (e ∷ es) last = (next : Stage) × IsExchange stage e next × AreExchanges next es last

-- the input lost messages, and the output grew by what they get
pub record IsSession (last : Stage) (input left : Option (List ℕ)) (old new : List ℕ) : Type 0 where
  pub exchanges : List Exchange
  pub each : AreExchanges stages.New exchanges last
  pub came : Consumes input left (flat_map (λ e. e.came) exchanges)
  pub went : new ≡ old ++ flat_map (λ e. e.went) exchanges

-- after a session bytes came that are no whole message
pub record IsCutOff (input left : Option (List ℕ)) (old new : List ℕ) : Type 0 where
  pub last : Stage
  pub middle : Option (List ℕ)
  pub session : IsSession last input middle old new
  pub rest : List ℕ
  pub came : Consumes middle left rest
  pub cut : IsCut rest
  pub end : IsAtEnd left

-- how a session ended
abbrev pub Served : Ended → Option (List ℕ) → Option (List ℕ) → List ℕ → List ℕ → Type 0
Served (endings.Exit is_done) input left old new = IsSession (stages.Over is_done) input left old new
Served endings.InputEnded input left old new = IsCutOff input left old new
Served endings.Failed input left old new = ⊤
