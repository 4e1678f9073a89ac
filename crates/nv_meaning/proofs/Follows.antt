-- Memories follow the writes, in each run of a program; and the run of a short program, by computing.
use Rattle.std.proofs.Common.{◌≡◌, ℕ, List, [], Option, Some, None, refl, sym, ap, ◌∙◌}
use Rattle.nv_base.specs.Memories.{Memories}
use Rattle.nv_base.specs.Meanings.{left_by}
use Rattle.nv_base.specs.Progress.{FollowsAll}
use Rattle.nv_ast.specs.Tree.{ProgramTree, FunTree}
use Rattle.nv_meaning_values.specs.Running.{Chain, plain, Running, Result, Gives, Raises, Halts, closed}
use Rattle.nv_meaning.specs.Meaning.{Declared, source, declared, function_in, run_main, calls_within}
use Rattle.nv_meaning.specs.Laws.{Seeking, Tracing}
use Rattle.nv_meaning.specs.inner.Ran.{Grown, now_of}
use Rattle.nv_meaning.proofs.Grows.{grown-here, eval-grows, calls-grow}
use Rattle.nv_meaning.proofs.Whole.{closed-writes}

closed-packet : (r : Result) → (closed r).packet ≡ (now_of r).packet
closed-packet (Gives v now) = refl
closed-packet (Raises k vs now) = refl
closed-packet (Halts how now) = refl

main-grows : (d : Declared) (f : Option FunTree) (args : List ℕ) (n : ℕ) (now : Running) → Grown now (run_main d f args n now)
main-grows d (Some f) args n now = eval-grows d (calls_within n d) (calls-grow n d) f.body _ now
main-grows d None args n now = grown-here now _ refl

-- a run from no writes
closed-follows : (p : Memories) (n : ℕ) (c : Chain) (r : Result) → Grown (record { calls = n; packet = p; writes = []; chain = c }) r → (closed r).packet ≡ left_by (plain (closed r).writes) p
closed-follows p n c r g = closed-packet r ∙ g.packet ∙ ap (λ ms. left_by (plain ms) p) (sym (closed-writes r ∙ g.writes))

pub source-follows : (t : ProgramTree) (args : List ℕ) (p : Memories) → FollowsAll p (source t args p)
source-follows t args p = λ n. closed-follows p n _ _ (main-grows (declared t) (function_in (declared t).functions _) args n _)

pub seeking-runs : Seeking
seeking-runs = record { handled = λ scratch. refl; going = λ scratch. refl }

pub chains-run : Tracing
chains-run = record { joined = λ scratch. refl; replaced = λ scratch. refl }
