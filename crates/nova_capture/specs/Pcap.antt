-- The format pcap: a header of 24 bytes, and for each packet 16 bytes and the packet's own.
use Rattle.std.specs.Prelude.{ℕ, ◌+◌, ◌*◌, ◌%◌, List, [], length, drop, Option, Some, None, Result, Ok, Err, nat_lt, ◌==◌, ◌&&◌, ◌||◌, not, if◌then◌else◌}
use Rattle.nova_capture.specs.declared.order.Order.{Order}
use Rattle.nova_capture.specs.declared.order.Order.TheVariants.{Big, Little}
use Rattle.nova_capture.specs.declared.item.Precision.{Precision}
use Rattle.nova_capture.specs.declared.item.Precision.TheVariants.{Microseconds, Nanoseconds}
use Rattle.nova_capture.specs.declared.item.Header.{Header}
use Rattle.nova_capture.specs.declared.item.Item.{Item}
use Rattle.nova_capture.specs.declared.item.Item.TheVariants as items
use Rattle.nova_capture.specs.declared.fault.Fault.{Fault}
use Rattle.nova_capture.specs.declared.fault.Fault.TheVariants.{Cut, Length, Longer, Version}
use Rattle.nova_capture.specs.Number.{field}

-- how many make a second
abbrev pub units : Precision → ℕ
units Microseconds = 1000000
units Nanoseconds = 1000000000

-- the first field: 0xa1b2c3d4 for microseconds, 0xa1b23c4d for nanoseconds, in the order of the capture
abbrev pub magic : Precision → ℕ
magic Microseconds = 2712847316
magic Nanoseconds = 2712812621

-- the order and the precision that the first four bytes tell
abbrev pub magic_at : List ℕ → Option (Order × Precision)
magic_at bytes =
    if field Big 4 0 bytes == magic Microseconds then Some (Big, Microseconds)
    else if field Little 4 0 bytes == magic Microseconds then Some (Little, Microseconds)
    else if field Big 4 0 bytes == magic Nanoseconds then Some (Big, Nanoseconds)
    else if field Little 4 0 bytes == magic Nanoseconds then Some (Little, Nanoseconds)
    else None

-- the version 2.4, two fields that nobody uses, the snap length, and the link type in 16 bits
unfoldable pub header_at : Order → Precision → List ℕ → Result Header Fault
header_at order precision bytes =
    if not (length bytes == 24) then Err Cut
    else if (field order 2 4 bytes == 2) && (field order 2 6 bytes == 4)
    then Ok (record { order = order; precision = precision; link = field order 4 20 bytes % 65536; snap = field order 4 16 bytes })
    else Err Version

-- the most bytes of a packet
abbrev pub most_captured : ℕ
most_captured = 262144

-- how long a record is, by the 16 bytes that it begins with
unfoldable pub pcap_len_at : Order → List ℕ → Result ℕ Fault
pcap_len_at order head =
    if nat_lt most_captured (field order 4 8 head) then Err Length
    else if nat_lt (field order 4 12 head) (field order 4 8 head) then Err Longer
    else Ok (16 + field order 4 8 head)

-- seconds, and units of the precision; the captured and the original length; the packet
unfoldable pub pcap_packet_at : Order → Precision → List ℕ → Result (Item × List ℕ) Fault
pcap_packet_at order precision bytes =
    if nat_lt (length bytes) 16 || not (length bytes == 16 + field order 4 8 bytes) then Err Cut
    else Ok (
      items.Packet (record {
        interface = 0;
        time = Some (field order 4 0 bytes * units precision + field order 4 4 bytes);
        captured = field order 4 8 bytes;
        original = field order 4 12 bytes;
      }),
      drop 16 bytes,
    )
