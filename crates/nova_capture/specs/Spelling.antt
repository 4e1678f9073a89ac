-- The record that is written for an item.
use Rattle.std.specs.Prelude.{◌≡◌, ◌≢◌, ◌≤◌, ◌<◌, ℕ, ◌+◌, ◌*◌, ◌/◌, ◌%◌, ◌-◌, ◌^◌, List, [], ◌∷◌, ◌++◌, length, min, replicate, Option, Some, None, unwrap_or, IfSome, MatchOption, ⊤}
use Rattle.nova_capture.specs.declared.order.Order.{Order}
use Rattle.nova_capture.specs.declared.item.Precision.{Precision}
use Rattle.nova_capture.specs.declared.item.Header.{Header}
use Rattle.nova_capture.specs.declared.item.Interface.{Interface}
use Rattle.nova_capture.specs.declared.item.Packet.{Packet}
use Rattle.nova_capture.specs.declared.item.Item.{Item}
use Rattle.nova_capture.specs.declared.item.Item.TheVariants as items
use Rattle.nova_capture.specs.declared.state.State.{State}
use Rattle.nova_capture.specs.declared.state.Format.{Format}
use Rattle.nova_capture.specs.declared.state.Format.TheVariants as formats
use Rattle.nova_capture.specs.Number.{digits}
use Rattle.nova_capture.specs.Pcap.{units, magic, most_captured}
use Rattle.nova_capture.specs.Blocks.{section_kind, interface_kind, simple_kind, enhanced_kind, order_magic, most_block, padded, simple_length}

-- ---- what has a record

abbrev pub HasLength : Packet → List ℕ → Type 0
HasLength p bytes = (length bytes ≡ p.captured) × (p.captured ≤ p.original)

-- the seconds of a time, as far as 32 bits go, and what they leave
abbrev pub seconds_in : Precision → ℕ → ℕ
seconds_in precision t = min (t / units precision) (2 ^ 32 - 1)

abbrev pub fraction_in : Precision → ℕ → ℕ
fraction_in precision t = t - seconds_in precision t * units precision

-- a packet of the one interface, with a time that fits
pub record FitsPcap (precision : Precision) (p : Packet) (bytes : List ℕ) : Type 0 where
  pub first : p.interface ≡ 0
  pub timed : MatchOption p.time ⊥ (λ t. fraction_in precision t < 2 ^ 32)
  pub size : p.captured ≤ most_captured
  pub lengths : HasLength p bytes

-- a packet of an interface of its section; without a time its length is that of a simple packet block
pub record FitsBlock (s : State) (p : Packet) (bytes : List ℕ) : Type 0 where
  pub known : p.interface < s.interfaces
  pub kind : MatchOption p.time ((p.interface ≡ 0) × (p.captured ≡ simple_length s p.original) × (p.captured + 16 ≤ most_block)) (λ _. p.captured + 32 ≤ most_block)
  pub lengths : HasLength p bytes

-- none of the kinds that have items of their own
pub record IsOther (kind : ℕ) : Type 0 where
  pub no_section : kind ≢ section_kind
  pub no_interface : kind ≢ interface_kind
  pub no_simple : kind ≢ simple_kind
  pub no_enhanced : kind ≢ enhanced_kind

-- a body of another kind, of whole groups of 4 bytes
pub record FitsOther (kind : ℕ) (bytes : List ℕ) : Type 0 where
  pub unlike : IsOther kind
  pub size : length bytes + 12 ≤ most_block
  pub whole : length bytes % 4 ≡ 0

abbrev pub FitsIn : Format → State → Item → List ℕ → Type 0
FitsIn formats.Start s (items.Header h) bytes = bytes ≡ []
FitsIn formats.Start s (items.Section order) bytes = bytes ≡ []
FitsIn formats.Start s (items.Interface i) bytes = ⊥
FitsIn formats.Start s (items.Packet p) bytes = ⊥
FitsIn formats.Start s (items.Other kind) bytes = ⊥
FitsIn (formats.Pcap order precision) s (items.Header h) bytes = ⊥
FitsIn (formats.Pcap order precision) s (items.Section o) bytes = ⊥
FitsIn (formats.Pcap order precision) s (items.Interface i) bytes = ⊥
FitsIn (formats.Pcap order precision) s (items.Packet p) bytes = FitsPcap precision p bytes
FitsIn (formats.Pcap order precision) s (items.Other kind) bytes = ⊥
FitsIn (formats.Blocks order) s (items.Header h) bytes = ⊥
FitsIn (formats.Blocks order) s (items.Section o) bytes = bytes ≡ []
FitsIn (formats.Blocks order) s (items.Interface i) bytes = (bytes ≡ []) × (s.interfaces < 2 ^ 32 - 1)
FitsIn (formats.Blocks order) s (items.Packet p) bytes = FitsBlock s p bytes
FitsIn (formats.Blocks order) s (items.Other kind) bytes = FitsOther kind bytes

-- a record says this item with these bytes
abbrev pub Fits : State → Item → List ℕ → Type 0
Fits s item bytes = FitsIn s.format s item bytes

-- ---- the record

abbrev pub pcap_header : Header → List ℕ
pcap_header h =
    digits h.order 4 (magic h.precision) ++ digits h.order 2 2 ++ digits h.order 2 4 ++ digits h.order 8 0
    ++ digits h.order 4 h.snap ++ digits h.order 4 h.link

abbrev pub pcap_record : Order → Precision → Packet → List ℕ → List ℕ
pcap_record order precision p bytes =
    digits order 4 (seconds_in precision (unwrap_or p.time 0)) ++ digits order 4 (fraction_in precision (unwrap_or p.time 0))
    ++ digits order 4 p.captured ++ digits order 4 p.original ++ bytes

abbrev pub section_block : Order → List ℕ
section_block order =
    digits order 4 section_kind ++ digits order 4 28 ++ digits order 4 order_magic ++ digits order 2 1 ++ digits order 2 0
    ++ digits order 8 (2 ^ 64 - 1) ++ digits order 4 28

-- with both options of times, and the option that ends them
abbrev pub interface_block : Order → Interface → List ℕ
interface_block order i =
    digits order 4 interface_kind ++ digits order 4 44 ++ digits order 2 i.link ++ digits order 2 0 ++ digits order 4 i.snap
    ++ digits order 2 9 ++ digits order 2 1 ++ (i.resolution ∷ 0 ∷ 0 ∷ 0 ∷ [])
    ++ digits order 2 14 ++ digits order 2 8 ++ digits order 8 i.offset ++ digits order 4 0 ++ digits order 4 44

-- zeros up to the next multiple of 4
abbrev pub padding : ℕ → List ℕ
padding n = replicate (padded n - n) 0

abbrev pub enhanced_block : Order → Packet → ℕ → List ℕ → List ℕ
enhanced_block order p time bytes =
    digits order 4 enhanced_kind ++ digits order 4 (32 + padded (length bytes)) ++ digits order 4 p.interface
    ++ digits order 4 (time / 2 ^ 32) ++ digits order 4 (time % 2 ^ 32) ++ digits order 4 p.captured ++ digits order 4 p.original
    ++ (bytes ++ padding (length bytes)) ++ digits order 4 (32 + padded (length bytes))

abbrev pub simple_block : Order → Packet → List ℕ → List ℕ
simple_block order p bytes =
    digits order 4 simple_kind ++ digits order 4 (16 + padded (length bytes)) ++ digits order 4 p.original
    ++ (bytes ++ padding (length bytes)) ++ digits order 4 (16 + padded (length bytes))

abbrev pub timed_block : Order → Packet → List ℕ → Option ℕ → List ℕ
timed_block order p bytes None = simple_block order p bytes
timed_block order p bytes (Some time) = enhanced_block order p time bytes

abbrev pub packet_block : Order → Packet → List ℕ → List ℕ
packet_block order p bytes = timed_block order p bytes p.time

abbrev pub other_block : Order → ℕ → List ℕ → List ℕ
other_block order kind body = digits order 4 kind ++ digits order 4 (12 + length body) ++ body ++ digits order 4 (12 + length body)

abbrev pub spelling_in : Format → Item → List ℕ → List ℕ
spelling_in formats.Start (items.Header h) bytes = pcap_header h
spelling_in formats.Start (items.Section order) bytes = section_block order
spelling_in formats.Start (items.Interface i) bytes = []
spelling_in formats.Start (items.Packet p) bytes = []
spelling_in formats.Start (items.Other kind) bytes = []
spelling_in (formats.Pcap order precision) (items.Header h) bytes = []
spelling_in (formats.Pcap order precision) (items.Section o) bytes = []
spelling_in (formats.Pcap order precision) (items.Interface i) bytes = []
spelling_in (formats.Pcap order precision) (items.Packet p) bytes = pcap_record order precision p bytes
spelling_in (formats.Pcap order precision) (items.Other kind) bytes = []
spelling_in (formats.Blocks order) (items.Header h) bytes = []
spelling_in (formats.Blocks order) (items.Section o) bytes = section_block o
spelling_in (formats.Blocks order) (items.Interface i) bytes = interface_block order i
spelling_in (formats.Blocks order) (items.Packet p) bytes = packet_block order p bytes
spelling_in (formats.Blocks order) (items.Other kind) bytes = other_block order kind bytes

-- the record of an item; it counts only for one that fits
abbrev pub spelling : State → Item → List ℕ → List ℕ
spelling s item bytes = spelling_in s.format item bytes
