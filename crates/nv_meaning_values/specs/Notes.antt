-- What is noted of a run: its writes as a log keeps them, and as a trace keeps them, each with where it was made.
use Rattle.std.specs.Prelude.{◌≡◌, ℕ, ◌+◌, ◌<◌, List, [], ◌∷◌, ◌++◌, filter, length, nat_lt, if◌then◌else◌}
use Rattle.nv_base.specs.declared.outcome.Write.{Write}
use Rattle.nv_base.specs.Log.{Log, noted_all}
use Rattle.nv_base.specs.Meanings.{is_source_write, source_writes}
use Rattle.nv_ast.specs.declared.token.Span.{Span}
use Rattle.nv_meaning_values.specs.Running.{Chain, Made, names_in}

-- how many writes a trace keeps at most, those that it keeps, and the number of all
pub record Trail : Type 0 where
  pub keep : ℕ
  pub kept : List Made
  pub count : ℕ

-- no write yet
abbrev pub no_trail : ℕ → Trail
no_trail keep = record { keep = keep; kept = []; count = 0 }

-- one write more
abbrev pub traced_one : Trail → Made → Trail
traced_one t m = record {
  keep = t.keep;
  kept = if nat_lt (length t.kept) t.keep then t.kept ++ m ∷ [] else t.kept;
  count = t.count + 1;
}

-- these writes more, in order
abbrev pub traced_all : Trail → List Made → Trail
traced_all t [] = t
traced_all t (m ∷ ms) = traced_all (traced_one t m) ms

-- without those to the compiler's scratch words
abbrev pub source_made : List Made → List Made
source_made ms = filter (λ m. is_source_write m.write.mem m.write.at) ms

-- there is room for a further write
abbrev pub HasRoom : Trail → Type 0
HasRoom t = length t.kept < t.keep

-- the log, the trace, and the calls in progress
pub record Notes : Type 0 where
  pub log : Log
  pub trail : Trail
  pub chain : Chain

-- the calls in progress are known as long as the trace has room
abbrev pub Knows : Notes → Chain → Type 0
Knows n c = HasRoom n.trail → n.chain ≡ c

-- a write, by a store statement, while these calls are in progress
abbrev pub made_of_write : Span → Chain → Write → Made
made_of_write s c w = record { write = w; span = s; chain = names_in c }

-- a write of a store statement is noted
pub record Stores (before : Notes) (s : Span) (w : Write) (after : Notes) : Type 0 where
  pub log : after.log ≡ noted_all before.log (source_writes (w ∷ []))
  pub trail : (c : Chain) → Knows before c → after.trail ≡ traced_all before.trail (source_made (made_of_write s c w ∷ []))
  pub knows : (c : Chain) → Knows before c → Knows after c
