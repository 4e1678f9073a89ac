-- What a trace keeps: writes with the numbers of their chains, and the chains by number.
use Rattle.std.specs.Prelude.{ℕ, ◌+◌, List, [], ◌∷◌, ◌++◌, map, length, get_or, nat_lt, if◌then◌else◌}
use Rattle.nv_base.specs.Meanings.{is_source_write}
use Rattle.nv_meaning_values.specs.Running.{Made}
use Rattle.nv_meaning_values.specs.Notes.{Trail}
use Rattle.nv_meaning_values.specs.declared.trace.Made as code

pub record Kept : Type 0 where
  pub keep : ℕ
  pub kept : List code.Made
  pub count : ℕ
  pub chains : List (List (List ℕ))

abbrev pub none_kept : ℕ → Kept
none_kept keep = record { keep = keep; kept = []; count = 0; chains = [] }

-- a write with the names of its chain
abbrev pub made_in : List (List (List ℕ)) → code.Made → Made
made_in chains m = record { write = m.write; span = m.span; chain = get_or chains m.chain [] }

-- what is kept, with the names of the chains
abbrev pub trail_of : Kept → Trail
trail_of t = record { keep = t.keep; kept = map (made_in t.chains) t.kept; count = t.count }

-- one write more
abbrev pub kept_one : Kept → code.Made → Kept
kept_one t m = record {
  keep = t.keep;
  kept = if nat_lt (length t.kept) t.keep then t.kept ++ m ∷ [] else t.kept;
  count = t.count + 1;
  chains = t.chains;
}

-- none where it is one to the compiler's scratch words
abbrev pub kept_source : Kept → code.Made → Kept
kept_source t m = if is_source_write m.write.mem m.write.at then kept_one t m else t
