-- One record of a capture: pcap's header, a record of pcap, or a block of pcapng.
use Rattle.std.specs.Prelude.{ℕ, ◌+◌, ◌^◌, ◌-◌, min, List, [], Option, Some, None, length, Result, Ok, Err, nat_lt, ◌==◌, if◌then◌else◌}
use Rattle.nova_capture.specs.declared.order.Order.{Order}
use Rattle.nova_capture.specs.declared.order.Order.TheVariants.{Big}
use Rattle.nova_capture.specs.declared.item.Precision.{Precision}
use Rattle.nova_capture.specs.declared.item.Item.{Item}
use Rattle.nova_capture.specs.declared.item.Item.TheVariants as items
use Rattle.nova_capture.specs.declared.state.State.{State}
use Rattle.nova_capture.specs.declared.state.Format.{Format}
use Rattle.nova_capture.specs.declared.state.Format.TheVariants as formats
use Rattle.nova_capture.specs.declared.fault.Fault.{Fault}
use Rattle.nova_capture.specs.declared.fault.Fault.TheVariants.{Cut, NotACapture}
use Rattle.nova_capture.specs.Number.{field}
use Rattle.nova_capture.specs.Reading.{◌>>=◌}
use Rattle.nova_capture.specs.Pcap.{magic_at, header_at, pcap_len_at, pcap_packet_at}
use Rattle.nova_capture.specs.Blocks.{section_kind, block_len_at, block_at}

-- how many bytes tell how long a record is
abbrev pub head_in : Format → ℕ
head_in formats.Start = 12
head_in (formats.Pcap order precision) = 16
head_in (formats.Blocks order) = 12

abbrev pub head_of : State → ℕ
head_of s = head_in s.format

-- a first record is pcap's header, of 24 bytes, or a block that begins a section
abbrev pub first_len : Option (Order × Precision) → List ℕ → Result ℕ Fault
first_len (Some known) head = Ok 24
first_len None head = if field Big 4 0 head == section_kind then block_len_at Big head else Err NotACapture

abbrev pub len_in : Format → List ℕ → Result ℕ Fault
len_in formats.Start head = first_len (magic_at head) head
len_in (formats.Pcap order precision) head = pcap_len_at order head
len_in (formats.Blocks order) head = block_len_at order head

-- how long the record is that begins so
abbrev pub record_len_at : State → List ℕ → Result ℕ Fault
record_len_at s head = len_in s.format head

abbrev pub first_item : Option (Order × Precision) → State → List ℕ → Result (Item × List ℕ) Fault
first_item (Some known) s bytes = header_at known.0 known.1 bytes >>= λ header. Ok (items.Header header, [])
first_item None s bytes = block_at Big s bytes

abbrev pub first_at : State → List ℕ → Result (Item × List ℕ) Fault
first_at s bytes = if nat_lt (length bytes) 12 then Err Cut else first_item (magic_at bytes) s bytes

abbrev pub item_in : Format → State → List ℕ → Result (Item × List ℕ) Fault
item_in formats.Start s bytes = first_at s bytes
item_in (formats.Pcap order precision) s bytes = pcap_packet_at order precision bytes
item_in (formats.Blocks order) s bytes = block_at order s bytes

-- what a whole record says: an item, and its bytes
abbrev pub item_at : State → List ℕ → Result (Item × List ℕ) Fault
item_at s bytes = item_in s.format s bytes

-- the state behind an item
abbrev pub state_after : State → Item → State
state_after s (items.Header h) = record { format = formats.Pcap h.order h.precision; interfaces = 1; snap = h.snap }
state_after s (items.Section order) = record { format = formats.Blocks order; interfaces = 0; snap = 0 }
state_after s (items.Interface i) = record { format = s.format; interfaces = min (s.interfaces + 1) (2 ^ 32 - 1); snap = if s.interfaces == 0 then i.snap else s.snap }
state_after s (items.Packet p) = s
state_after s (items.Other kind) = s

-- the state before the first record
abbrev pub first_state : State
first_state = record { format = formats.Start; interfaces = 0; snap = 0 }
