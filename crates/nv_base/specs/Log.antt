-- The log of a run's writes: all are counted, and the first are kept.
use Rattle.std.specs.Prelude.{ℕ, ◌+◌, List, [], ◌∷◌, ◌++◌, nat_lt, length, if◌then◌else◌}
use Rattle.nv_base.specs.declared.outcome.Write.{Write}

-- how many are kept at most, those that are kept, and the number of all
pub record Log : Type 0 where
  pub keep : ℕ
  pub kept : List Write
  pub count : ℕ

-- no write yet
abbrev pub empty_log : ℕ → Log
empty_log keep = record { keep = keep; kept = []; count = 0 }

-- one write more
abbrev pub noted : Log → Write → Log
noted log w = record {
  keep = log.keep;
  kept = if nat_lt (length log.kept) log.keep then log.kept ++ w ∷ [] else log.kept;
  count = log.count + 1;
}

-- these writes more, in order
abbrev pub noted_all : Log → List Write → Log
noted_all log [] = log
noted_all log (w ∷ ws) = noted_all (noted log w) ws
