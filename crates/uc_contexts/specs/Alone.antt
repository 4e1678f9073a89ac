-- Contexts that can't disturb one another, and what each is when it runs alone.
use Rattle.std.specs.Prelude.{◌≡◌, ℕ, suc, List, [], ◌∷◌, ◌++◌, Some, ◌⊎◌, nat_eq, if◌then◌else◌, map, slice_get}
use Rattle.nv_base.specs.declared.term.Mem.{Mem}
use Rattle.nv_base.specs.declared.outcome.Write.{Write as WriteEvent}
use Rattle.nv_base.specs.Log.{empty_log, noted_all}
use Rattle.nv_base.specs.Memories.{Memories}
use Rattle.nv_base.specs.Meanings.{left_by, source_writes}
use Rattle.uc_isa.specs.Code.{CodeView}
use Rattle.uc_contexts.specs.declared.state.Context.{Context}
use Rattle.uc_contexts.specs.Turns.{System, base_of, kept_writes}
use Rattle.uc_contexts.specs.Footprints.{Isolated, Reads, Writes, lone_outcome, moment}

-- how many entries of a schedule are a context's own
abbrev pub own_entries : ℕ → List ℕ → ℕ
own_entries i [] = 0
own_entries i (j ∷ rest) = if nat_eq i j then suc (own_entries i rest) else own_entries i rest

-- each context's run alone, from number i on: with its own arguments and base, for as many steps as it has entries
abbrev pub runs_from : List ℕ → ℕ → List (List ℕ) → List Isolated
runs_from schedule i [] = []
runs_from schedule i (args ∷ more) = record { args = args; base = base_of i; steps = own_entries i schedule } ∷ runs_from schedule (suc i) more

abbrev pub lone_runs : List ℕ → List (List ℕ) → List Isolated
lone_runs schedule args = runs_from schedule 0 args

-- no address that one run writes is read or written by another
abbrev pub AreDisjoint : CodeView → Memories → List Isolated → Type 0
AreDisjoint c p runs = (i j : ℕ) (x y : Isolated) → ¬ (i ≡ j) → slice_get runs i ≡ Some x → slice_get runs j ≡ Some y
    → (m : Mem) (a : ℕ) → Writes c p x m a → ¬ (Reads c p y m a ⊎ Writes c p y m a)

-- one run writes the address, and another reads or writes it
pub record IsCommon (c : CodeView) (p : Memories) (runs : List Isolated) (m : Mem) (a : ℕ) : Type 0 where
  pub writer : ℕ
  pub other : ℕ
  pub first : Isolated
  pub second : Isolated
  pub apart : ¬ (writer ≡ other)
  pub first_is : slice_get runs writer ≡ Some first
  pub second_is : slice_get runs other ≡ Some second
  pub written : Writes c p first m a
  pub touched : Reads c p second m a ⊎ Writes c p second m a

-- a context as its run alone leaves it: the engine, the outcome, and the source's writes in its log
abbrev pub left_alone : CodeView → Memories → Isolated → Context
left_alone c p run = record {
  engine = (moment c p run run.steps).engine;
  outcome = (lone_outcome c p run).outcome;
  log = noted_all (empty_log kept_writes) (source_writes (lone_outcome c p run).writes);
}

-- the writes of all runs, each alone on the first memories, those of the first run first
abbrev pub all_writes : CodeView → Memories → List Isolated → List WriteEvent
all_writes c p [] = []
all_writes c p (run ∷ runs) = (lone_outcome c p run).writes ++ all_writes c p runs

-- each context as if it were alone, and the first memories after all their writes
abbrev pub all_alone : CodeView → Memories → List Isolated → System
all_alone c p runs = record { contexts = map (left_alone c p) runs; packet = left_by (all_writes c p runs) p }
