-- The format pcapng: blocks, each with its kind, its length before its body and again behind it.
use Rattle.std.specs.Prelude.{ℕ, zero, suc, ◌+◌, ◌*◌, ◌/◌, ◌%◌, ◌-◌, ◌^◌, List, [], ◌∷◌, length, take, drop, slice_index, slice_range, min, Option, Some, None, Result, Ok, Err, nat_lt, nat_le, ◌==◌, ◌&&◌, ◌||◌, not, if◌then◌else◌}
use Rattle.nova_capture.specs.declared.order.Order.{Order}
use Rattle.nova_capture.specs.declared.order.Order.TheVariants.{Big, Little}
use Rattle.nova_capture.specs.declared.item.Item.{Item}
use Rattle.nova_capture.specs.declared.item.Item.TheVariants as items
use Rattle.nova_capture.specs.declared.item.Packet.{Packet}
use Rattle.nova_capture.specs.declared.options.Times.{Times}
use Rattle.nova_capture.specs.declared.state.State.{State}
use Rattle.nova_capture.specs.declared.fault.Fault.{Fault}
use Rattle.nova_capture.specs.declared.fault.Fault.TheVariants.{ByteOrder, Cut, Length, Longer, NoInterface, Options, Short, Trailer, Version}
use Rattle.nova_capture.specs.Number.{field}
use Rattle.nova_capture.specs.Reading.{◌>>=◌}

-- the kinds of blocks: 0x0a0d0d0a begins a section
abbrev pub section_kind : ℕ
section_kind = 168627466

abbrev pub interface_kind : ℕ
interface_kind = 1

abbrev pub simple_kind : ℕ
simple_kind = 3

abbrev pub enhanced_kind : ℕ
enhanced_kind = 6

-- 0x1a2b3c4d, in the order of the section
abbrev pub order_magic : ℕ
order_magic = 439041101

-- the most bytes of a block
abbrev pub most_block : ℕ
most_block = 16777216

-- the next multiple of 4
abbrev pub padded : ℕ → ℕ
padded n = (n + 3) / 4 * 4

-- the order that the magic tells
abbrev pub order_at : List ℕ → Result Order Fault
order_at bytes =
    if field Big 4 8 bytes == order_magic then Ok Big
    else if field Little 4 8 bytes == order_magic then Ok Little
    else Err ByteOrder

-- the order of a block: its section's, or of the section that it begins
unfoldable pub block_order_at : Order → List ℕ → Result Order Fault
block_order_at order bytes = if field order 4 0 bytes == section_kind then order_at bytes else Ok order

-- how long a block is, by the 12 bytes that it begins with: a multiple of 4, and no less than these
unfoldable pub block_len_at : Order → List ℕ → Result ℕ Fault
block_len_at outer head = do
  order ← block_order_at outer head
  if nat_lt (field order 4 4 head) 12 || nat_lt most_block (field order 4 4 head) || not (field order 4 4 head % 4 == 0) then Err Length else Ok (field order 4 4 head)

-- a section: the version 1, and a length that doesn't matter
unfoldable pub section_at : Order → List ℕ → Result (Item × List ℕ) Fault
section_at order body =
    if nat_lt (length body) 16 then Err Short
    else if field order 2 4 body == 1 then Ok (items.Section order, [])
    else Err Version

-- an option: a code, a length, the value, and zeros up to a multiple of 4
unfoldable pub option_at : Order → List ℕ → Option (ℕ × List ℕ × List ℕ)
option_at order bytes =
    if nat_lt (length bytes) 4 then None
    else if nat_lt (length bytes) (4 + padded (field order 2 2 bytes)) then None
    else Some (field order 2 0 bytes, slice_range bytes 4 (4 + field order 2 2 bytes), drop (4 + padded (field order 2 2 bytes)) bytes)

-- the options 9, a resolution, and 14, an offset; others are passed over
abbrev pub times_with : Order → ℕ → List ℕ → Times → Times
times_with order code value times =
    if (code == 9) && (length value == 1) then record { resolution = slice_index value 0; offset = times.offset }
    else if (code == 14) && (length value == 8) then record { resolution = times.resolution; offset = field order 8 0 value }
    else times

-- the rest of the options behind one, of which none is left at the option 0
abbrev pub next_option : (List ℕ → Times → Result Times Fault) → Order → Times → Option (ℕ × List ℕ × List ℕ) → Result Times Fault
next_option go order times None = Err Options
next_option go order times (Some o) = if o.0 == 0 then Ok times else go o.2 (times_with order o.0 o.1 times)

-- what the options say of times, up to the option 0 or the end; n is at least their number
abbrev pub options_at : Order → ℕ → List ℕ → Times → Result Times Fault
options_at order n [] times = Ok times
options_at order zero (b ∷ bytes) times = Ok times
options_at order (suc n) (b ∷ bytes) times = next_option (options_at order n) order times (option_at order (b ∷ bytes))

-- microseconds since 1970
abbrev pub usual : Times
usual = record { resolution = 6; offset = 0 }

-- an interface: its link type, its snap length, and options
unfoldable pub interface_at : Order → State → List ℕ → Result (Item × List ℕ) Fault
interface_at order state body =
    if nat_lt (length body) 8 then Err Short
    else if state.interfaces == 2 ^ 32 - 1 then Err NoInterface
    else (options_at order (length (drop 8 body)) (drop 8 body) usual >>= λ times.
    Ok (items.Interface (record { link = field order 2 0 body; snap = field order 4 4 body; resolution = times.resolution; offset = times.offset }), []))

-- a packet whose bytes stand in front
unfoldable pub packet_at : State → Packet → List ℕ → Result (Item × List ℕ) Fault
packet_at state packet bytes =
    if nat_le state.interfaces packet.interface then Err NoInterface
    else if nat_lt packet.original packet.captured then Err Longer
    else if nat_lt (length bytes) packet.captured then Err Length
    else Ok (items.Packet packet, take packet.captured bytes)

-- an enhanced packet block: the interface, the time's high and low half, the captured and the original length
unfoldable pub enhanced_at : Order → State → List ℕ → Result (Item × List ℕ) Fault
enhanced_at order state body =
    if nat_lt (length body) 20 then Err Short
    else packet_at state (record {
      interface = field order 4 0 body;
      time = Some (field order 4 4 body * 2 ^ 32 + field order 4 8 body);
      captured = field order 4 12 body;
      original = field order 4 16 body;
    }) (drop 20 body)

-- how many bytes of a packet a simple packet block holds: the snap length of the first interface bounds it
abbrev pub simple_length : State → ℕ → ℕ
simple_length state original = if state.snap == 0 then original else min original state.snap

-- a simple packet block: the original length alone, at the first interface
unfoldable pub simple_at : Order → State → List ℕ → Result (Item × List ℕ) Fault
simple_at order state body =
    if nat_lt (length body) 4 then Err Short
    else packet_at state (record {
      interface = 0;
      time = None;
      captured = simple_length state (field order 4 0 body);
      original = field order 4 0 body;
    }) (drop 4 body)

abbrev pub body_at : Order → State → ℕ → List ℕ → Result (Item × List ℕ) Fault
body_at order state kind body =
    if kind == section_kind then section_at order body
    else if kind == interface_kind then interface_at order state body
    else if kind == simple_kind then simple_at order state body
    else if kind == enhanced_kind then enhanced_at order state body
    else Ok (items.Other kind, body)

-- what a block says
unfoldable pub block_at : Order → State → List ℕ → Result (Item × List ℕ) Fault
block_at outer state bytes =
    if nat_lt (length bytes) 12 then Err Cut
    else (block_order_at outer bytes >>= λ order.
    if field order 4 4 bytes == field order 4 (length bytes - 4) bytes
    then body_at order state (field order 4 0 bytes) (slice_range bytes 8 (length bytes - 4))
    else Err Trailer)
