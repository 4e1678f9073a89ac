-- A whole capture, as a stream of records.
use Rattle.std.specs.Prelude.{◌≡◌, ◌≢◌, ◌≤◌, ◌<◌, ℕ, ◌^◌, ◌+◌, ◌-◌, min, List, [], length, take, Option, Some, None, Result, Ok, Err, ◌⊎◌, ⊤}
use Rattle.std.specs.Io.KnownBytes.{Consumes, IsAtEnd}
use Rattle.nova_capture.specs.declared.item.Item.{Item}
use Rattle.nova_capture.specs.declared.item.Item.TheVariants as items
use Rattle.nova_capture.specs.declared.state.State.{State}
use Rattle.nova_capture.specs.declared.state.Position.{Position}
use Rattle.nova_capture.specs.declared.state.Format.TheVariants as formats
use Rattle.nova_capture.specs.declared.fault.Fault.{Fault}
use Rattle.nova_capture.specs.declared.fault.Fault.TheVariants.{Cut}
use Rattle.nova_capture.specs.declared.fault.Broken.{Broken}
use Rattle.nova_capture.specs.declared.fault.ReadError.{ReadError}
use Rattle.nova_capture.specs.declared.fault.ReadError.TheVariants as errors
use Rattle.nova_capture.specs.Record.{head_of, record_len_at, item_at, state_after}

-- the bytes are as long as their head says
abbrev pub IsWhole : State → List ℕ → Type 0
IsWhole s bytes = (head_of s ≤ length bytes) × (record_len_at s (take (head_of s) bytes) ≡ Ok (length bytes))

-- the bytes begin a record, and are fewer than it has; none begin one only at the start
pub record IsCut (s : State) (bytes : List ℕ) : Type 0 where
  pub begun : bytes ≡ [] → s.format ≡ formats.Start
  pub missing : head_of s ≤ length bytes → (n : ℕ) × (record_len_at s (take (head_of s) bytes) ≡ Ok n) × (length bytes < n)

-- the bytes are a head that tells no length, or a record that says nothing
abbrev pub IsWrong : State → List ℕ → Fault → Type 0
IsWrong s bytes fault = ((length bytes ≡ head_of s) × (record_len_at s bytes ≡ Err fault)) ⊎ (IsWhole s bytes × (item_at s bytes ≡ Err fault))

-- a number goes up by so many, and stays at the last of 64 bits
abbrev pub up_to_most : ℕ → ℕ → ℕ
up_to_most n more = min (n + more) (2 ^ 64 - 1)

abbrev pub packets_after : ℕ → Item → ℕ
packets_after n (items.Packet p) = up_to_most n 1
packets_after n (items.Header h) = n
packets_after n (items.Section order) = n
packets_after n (items.Interface i) = n
packets_after n (items.Other kind) = n

-- the position behind a record of so many bytes that says this item
abbrev pub behind : Position → Item → ℕ → Position
behind at item len = record { state = state_after at.state item; packets = packets_after at.packets item; offset = up_to_most at.offset len }

-- the bytes are a record that says this item, with these bytes beside it
abbrev pub SaysItem : State → List ℕ → Item → List ℕ → Type 0
SaysItem s front item bytes = IsWhole s front × (item_at s front ≡ Ok (item, bytes))

-- what one call of the reader gave: an item, the end, or what is wrong; `old` is what the input held, and `new` what it holds now
pub record ReadsItem (at : Position) (old new : Option (List ℕ)) (item : Item) (bytes : List ℕ) (now : Position) : Type 0 where
  pub front : List ℕ
  pub consumed : Consumes old new front
  pub says : SaysItem at.state front item bytes
  pub further : now ≡ behind at item (length front)

pub record ReadsFault (s : State) (old new : Option (List ℕ)) (fault : Fault) : Type 0 where
  pub front : List ℕ
  pub consumed : Consumes old new front
  pub why : IsWrong s front fault ⊎ ((fault ≡ Cut) × IsCut s front × IsAtEnd new)

abbrev pub ReadsNothing : State → Option (List ℕ) → Type 0
ReadsNothing s old = IsAtEnd old × (s.format ≢ formats.Start)

abbrev pub ReadsError : State → Option (List ℕ) → Option (List ℕ) → ReadError → Type 0
ReadsError s old new errors.NoMemory = ⊤
ReadsError s old new (errors.Failed kind) = ⊤
ReadsError s old new (errors.Broken b) = ReadsFault s old new b.fault

abbrev pub Reads : Position → Option (List ℕ) → Option (List ℕ) → Result (Option Item) ReadError → List ℕ → Position → Type 0
Reads at old new (Ok None) bytes now = ReadsNothing at.state old
Reads at old new (Ok (Some item)) bytes now = ReadsItem at old new item bytes now
Reads at old new (Err e) bytes now = ReadsError at.state old new e

-- a fault at a position is told with the next packet, and with where the record begins
abbrev pub broken_at : Fault → Position → Broken
broken_at fault at = record { fault = fault; packet = up_to_most at.packets 1; offset = at.offset }

abbrev pub Place : Position → ReadError → Type 0
Place at errors.NoMemory = ⊤
Place at (errors.Failed kind) = ⊤
Place at (errors.Broken b) = b ≡ broken_at b.fault at
