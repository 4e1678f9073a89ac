-- Frames of a capture: the link header, and the packet behind it as words of SDRAM.
use Rattle.std.specs.Prelude.{ℕ, ◌+◌, ◌%◌, min, List, [], ◌∷◌, ◌++◌, length, drop, Bool, ◌==◌, ◌&&◌, ◌||◌, if◌then◌else◌}
use Rattle.std.specs.Int.{w32, to_be_bytes}
use Rattle.nova_memory.specs.Readable.{words_of}

-- words, filled up with a zero to whole quadwords
abbrev pub filled : List ℕ → List ℕ
filled words = if length words % 2 == 0 then words else words ++ 0 ∷ []

-- the words of a packet in SDRAM
abbrev pub quadwords : List ℕ → List ℕ
quadwords bytes = filled (words_of bytes)

-- the bytes of words, the highest of each word first
abbrev pub bytes_of : List ℕ → List ℕ
bytes_of [] = []
bytes_of (w ∷ ws) = to_be_bytes w32 w ++ bytes_of ws

-- the types of frames with a VLAN tag: 0x8100 and 0x88a8
abbrev pub is_tag : ℕ → ℕ → Bool
is_tag high low = ((high == 129) && (low == 0)) || ((high == 136) && (low == 168))

-- how many bytes of tags stand in front
abbrev pub tags_length : List ℕ → ℕ
tags_length (a ∷ b ∷ c ∷ d ∷ rest) = if is_tag a b then 4 + tags_length rest else 0
tags_length _ = 0

-- the link header by its type: of Ethernet both addresses, the tags and the type; of loopback and of Linux cooked captures a fixed one
abbrev pub header_of : ℕ → List ℕ → ℕ
header_of link frame =
    if link == 1 then 14 + tags_length (drop 12 frame)
    else if (link == 0) || (link == 108) then 4
    else if link == 113 then 16
    else if link == 276 then 20
    else 0

-- how many bytes of a frame stand before its packet
abbrev pub header_length : ℕ → List ℕ → ℕ
header_length link frame = min (header_of link frame) (length frame)
