-- A whole replay.
use Rattle.std.specs.Prelude.{◌≡◌, ℕ, zero, suc, ◌+◌, ◌-◌, ◌^◌, ◌≤◌, ◌⊎◌, ⊤, min, List, [], ◌∷◌, ◌++◌, length, take, drop, slice_get, Option, Some, Result, Ok, Err, IsSomeAnd, unwrap_or, true, false, nat_lt, if◌then◌else◌}
use Rattle.std.specs.Io.KnownBytes.{Consumes, Appends}
use Rattle.nv_base.specs.Memories.{Memories}
use Rattle.nova_capture.specs.declared.item.Item.{Item}
use Rattle.nova_capture.specs.declared.item.Item.TheVariants as items
use Rattle.nova_capture.specs.declared.item.Packet.{Packet}
use Rattle.nova_capture.specs.declared.state.State.{State as Format}
use Rattle.nova_capture.specs.declared.state.Position.{Position}
use Rattle.nova_capture.specs.Record.{state_after}
use Rattle.nova_capture.specs.Spelling.{Fits, spelling}
use Rattle.nova_capture.specs.Stream.{SaysItem, Place, ReadsError, ReadsNothing, behind, up_to_most}
use Rattle.nova_replay.specs.declared.plan.Plan.{Plan}
use Rattle.nova_replay.specs.declared.packet.Fate.{Fate}
use Rattle.nova_replay.specs.declared.packet.Fate.TheVariants.{Ended, Raised, Trouble}
use Rattle.nova_replay.specs.declared.counts.Cause.{Cause}
use Rattle.nova_replay.specs.declared.counts.Cause.TheVariants as causes
use Rattle.nova_replay.specs.declared.counts.Trouble.{Trouble as TroubleOf}
use Rattle.nova_replay.specs.declared.counts.Counts.{Counts}
use Rattle.nova_replay.specs.declared.packet.State.{State}
use Rattle.nova_replay.specs.declared.copying.Stop.{Stop}
use Rattle.nova_replay.specs.declared.copying.Stop.TheVariants as stops
use Rattle.nova_replay.specs.Frames.{header_length}
use Rattle.nova_replay.specs.Fates.{Came, came}

-- ---- counts

-- how many packets came to which end: `raised` has the counts of the exceptions from number 1 on, and `shown` the first eight in trouble
pub record Tally : Type 0 where
  pub forwarded : ℕ
  pub kept : ℕ
  pub raised : List ℕ
  pub faulted : ℕ
  pub spent : ℕ
  pub long : ℕ
  pub shown : List TroubleOf

-- before the first packet
abbrev pub no_packets : Tally
no_packets = record { forwarded = 0; kept = 0; raised = []; faulted = 0; spent = 0; long = 0; shown = [] }

abbrev pub one_more : ℕ → ℕ
one_more n = up_to_most n 1

-- one more at a place; places that weren't there have 0
abbrev pub one_more_at : ℕ → List ℕ → List ℕ
one_more_at zero [] = 1 ∷ []
one_more_at zero (c ∷ cs) = one_more c ∷ cs
one_more_at (suc n) [] = 0 ∷ one_more_at n []
one_more_at (suc n) (c ∷ cs) = c ∷ one_more_at n cs

abbrev pub shown_with : List TroubleOf → TroubleOf → List TroubleOf
shown_with shown t = if nat_lt (length shown) 8 then shown ++ t ∷ [] else shown

abbrev pub with_cause : Tally → Cause → Tally
with_cause t (causes.Fault mem at) = record t { faulted = one_more t.faulted }
with_cause t causes.Steps = record t { spent = one_more t.spent }
with_cause t causes.LongIn = record t { long = one_more t.long }
with_cause t (causes.LongOut n) = record t { long = one_more t.long }

abbrev pub with_trouble : Tally → TroubleOf → Tally
with_trouble t trouble = let more = with_cause t trouble.cause in record more { shown = shown_with t.shown trouble }

-- one more packet of this number, whose record stands at this place, with this fate
abbrev pub counted : ℕ → ℕ → Fate → Tally → Tally
counted number offset (Ended count words) t = record t { forwarded = one_more t.forwarded }
counted number offset (Raised exception words is_kept) t = record t { kept = if is_kept then one_more t.kept else t.kept; raised = one_more_at (exception - 1) t.raised }
counted number offset (Trouble cause) t = with_trouble t (record { packet = number; offset = offset; cause = cause })

-- ---- the state of a replay

-- where the input stands; the memories that the last packet left; the link types of the interfaces; what the records that were
-- written say for the next one; the counts
pub record Moment : Type 0 where
  pub at : Position
  pub memory : Memories
  pub links : List ℕ
  pub format : Format
  pub tally : Tally

-- the link types behind an item
abbrev pub links_after : List ℕ → Item → List ℕ
links_after links (items.Header h) = h.link ∷ []
links_after links (items.Section order) = []
links_after links (items.Interface i) = links ++ i.link ∷ []
links_after links (items.Packet p) = links
links_after links (items.Other kind) = links

-- behind a record of so many bytes, whose item isn't handled yet
abbrev pub read_on : Moment → Item → ℕ → Moment
read_on m item len = record m { at = behind m.at item len }

-- ---- one item: the bytes that are written

-- the record of an item is written, which has one
abbrev pub IsWritten : Format → Item → List ℕ → Format → List ℕ → Type 0
IsWritten f item bytes after w = Fits f item bytes × (after ≡ state_after f item) × (w ≡ spelling f item bytes)

abbrev pub NothingWritten : Format → Format → List ℕ → Type 0
NothingWritten f after w = (after ≡ f) × (w ≡ [])

-- the header of what comes out: what the capture lacks of the packet it still lacks
abbrev pub packet_out : Packet → ℕ → Packet
packet_out p len = record p { captured = min len (2 ^ 32 - 1); original = min (min len (2 ^ 32 - 1) + (p.original - p.captured)) (2 ^ 32 - 1) }

-- what comes out is written if its format has a record of it; else the packet is too long
abbrev pub IsForwarded : Format → Item → List ℕ → ℕ → Fate → Fate → Format → List ℕ → Type 0
IsForwarded f item bytes count fate settled after w =
    (IsWritten f item bytes after w × (settled ≡ fate))
    ⊎ ((Fits f item bytes → ⊥) × NothingWritten f after w × (settled ≡ Trouble (causes.LongOut count)))

-- what is written by the fate of a packet, and the fate that is counted; a packet that raised is written as it came, or not at all
abbrev pub IsSettled : Format → Packet → List ℕ → List ℕ → Fate → Fate → Format → List ℕ → Type 0
IsSettled f p frame out (Ended count words) settled after w = IsForwarded f (items.Packet (packet_out p (length out))) out count (Ended count words) settled after w
IsSettled f p frame out (Raised number words true) settled after w = IsWritten f (items.Packet p) frame after w × (settled ≡ Raised number words true)
IsSettled f p frame out (Raised number words false) settled after w = NothingWritten f after w × (settled ≡ Raised number words false)
IsSettled f p frame out (Trouble cause) settled after w = NothingWritten f after w × (settled ≡ Trouble cause)

-- how long a frame's link header is, by the link type of its interface
abbrev pub header_in : List ℕ → Packet → List ℕ → ℕ
header_in links p frame = header_length (unwrap_or (slice_get links p.interface) 65535) frame

-- what came of the packet behind the link header, on the memories that the last packet left
abbrev pub came_in : Plan → Moment → Packet → List ℕ → Came
came_in plan m p frame = came plan m.memory (drop (header_in m.links p frame) frame)

-- what is written has the link header of the frame before it
pub record IsPassed (plan : Plan) (offset : ℕ) (m : Moment) (p : Packet) (frame : List ℕ) (after : Moment) (w : List ℕ) : Type 0 where
  pub settled : Fate
  pub writes : IsSettled m.format p frame (take (header_in m.links p frame) frame ++ (came_in plan m p frame).out) (came_in plan m p frame).fate settled after.format w
  pub leaves : after.memory ≡ (came_in plan m p frame).memory
  pub counts : after.tally ≡ counted m.at.packets offset settled m.tally
  pub links : after.links ≡ m.links
  pub at : after.at ≡ m.at

-- any other item is written as it came
pub record IsCopied (m : Moment) (item : Item) (bytes : List ℕ) (after : Moment) (w : List ℕ) : Type 0 where
  pub writes : IsWritten m.format item bytes after.format w
  pub leaves : after.memory ≡ m.memory
  pub counts : after.tally ≡ m.tally
  pub links : after.links ≡ links_after m.links item
  pub at : after.at ≡ m.at

abbrev pub IsHandled : Plan → ℕ → Moment → Item → List ℕ → Moment → List ℕ → Type 0
IsHandled plan offset m (items.Packet p) bytes after w = IsPassed plan offset m p bytes after w
IsHandled plan offset m (items.Header h) bytes after w = IsCopied m (items.Header h) bytes after w
IsHandled plan offset m (items.Section order) bytes after w = IsCopied m (items.Section order) bytes after w
IsHandled plan offset m (items.Interface i) bytes after w = IsCopied m (items.Interface i) bytes after w
IsHandled plan offset m (items.Other kind) bytes after w = IsCopied m (items.Other kind) bytes after w

-- ---- the capture

-- a step, and then others
pub record Follows (First : List ℕ → List ℕ → Moment → Type 0) (Rest : Moment → List ℕ → List ℕ → Moment → Type 0) (read written : List ℕ) (after : Moment) : Type 0 where
  pub front : List ℕ
  pub first : List ℕ
  pub next : Moment
  pub more : List ℕ
  pub rest : List ℕ
  pub begins : First front first next
  pub goes_on : Rest next more rest after
  pub all_read : read ≡ front ++ more
  pub all_written : written ≡ first ++ rest

-- the bytes `front` are one record; its item is handled, which writes the bytes `w`
pub record IsStep (plan : Plan) (m : Moment) (front w : List ℕ) (after : Moment) : Type 0 where
  pub item : Item
  pub bytes : List ℕ
  pub says : SaysItem m.at.state front item bytes
  pub handled : IsHandled plan m.at.offset (read_on m item (length front)) item bytes after w

-- `read` are so many records, whose items are handled one after the other, which writes `written`
abbrev pub Replays : Plan → ℕ → Moment → List ℕ → List ℕ → Moment → Type 0
Replays plan zero m read written after = (read ≡ []) × (written ≡ []) × (after ≡ m)
Replays plan (suc n) m read written after = Follows (IsStep plan m) (Replays plan n) read written after

-- what a replay keeps, as a moment
abbrev pub tally_of : Counts → Tally
tally_of c = record { forwarded = c.forwarded; kept = c.kept; raised = c.raised.items; faulted = c.faulted; spent = c.spent; long = c.long; shown = c.shown.items }

abbrev pub moment : Position → Format → State → Moment
moment at format s = record { at = at; memory = s.memory; links = s.links.items; format = format; tally = tally_of s.counts }

-- records of the input were replayed, and what that writes was appended to the output; `old` is what each held, and `new` what it holds now
pub record IsReplay (plan : Plan) (m : Moment) (old_in new_in old_out new_out : Option (List ℕ)) (after : Moment) : Type 0 where
  pub count : ℕ
  pub read : List ℕ
  pub written : List ℕ
  pub replays : Replays plan count m read written after
  pub consumed : Consumes old_in new_in read
  pub appended : Appends old_out new_out written

-- no packet is to follow so many
abbrev pub IsOver : Plan → ℕ → Type 0
IsOver plan packets = IsSomeAnd plan.limit (λ limit. limit ≤ packets)

-- what ends a replay that stands here: its limit, the end of the capture, or the error of the next record
abbrev pub EndsBy : Plan → Position → Option (List ℕ) → Option (List ℕ) → Result (Unit {0}) Stop → Type 0
EndsBy plan at old new (Ok u) = (IsOver plan at.packets × (new ≡ old)) ⊎ ReadsNothing at.state old
EndsBy plan at old new (Err (stops.Read e)) = ReadsError at.state old new e × Place at e
EndsBy plan at old new (Err (stops.Failed f)) = ⊤

-- all records up to that end were replayed
pub record IsWholeReplay (plan : Plan) (m : Moment) (old_in new_in old_out new_out : Option (List ℕ)) (after : Moment) (result : Result (Unit {0}) Stop) : Type 0 where
  pub rest : Option (List ℕ)
  pub replay : IsReplay plan m old_in rest old_out new_out after
  pub ends : EndsBy plan after.at rest new_in result

-- nothing is told of a replay that failed to write or for want of memory
abbrev pub Replayed : Plan → Moment → Option (List ℕ) → Option (List ℕ) → Option (List ℕ) → Option (List ℕ) → Moment → Result (Unit {0}) Stop → Type 0
Replayed plan m old_in new_in old_out new_out after (Ok u) = IsWholeReplay plan m old_in new_in old_out new_out after (Ok u)
Replayed plan m old_in new_in old_out new_out after (Err (stops.Read e)) = IsWholeReplay plan m old_in new_in old_out new_out after (Err (stops.Read e))
Replayed plan m old_in new_in old_out new_out after (Err (stops.Failed f)) = ⊤
