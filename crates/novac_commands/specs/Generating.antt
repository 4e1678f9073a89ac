-- What the command `gen` prints, and why it is refused.
use Rattle.std.specs.Prelude.{◌≡◌, ◌≤◌, ◌^◌, ◌⊎◌, ℕ, List, [], ◌∷◌, ◌++◌, codes, decimal, length}
use Rattle.nv_lines.specs.Number.{hex_word}
use Rattle.nv_generate.specs.Made.{made}
use Rattle.nv_ast.specs.Tree.{ProgramTree}
use Rattle.nv_base.specs.Memories.{Memories}
use Rattle.nv_base.specs.declared.outcome.Outcome.TheVariants.{Ended}
use Rattle.nv_meaning.specs.Meaning.{source}
use Rattle.uc_isa.specs.Code.{CodeView}
use Rattle.nova_compile.specs.Sources.{IsTypedSource}
use Rattle.zo_cert.specs.declared.report.Report.{Report}
use Rattle.zo_cert.specs.declared.report.Verdict.{Verdict}
use Rattle.nova_back.specs.Causes.{report_cost}
use Rattle.nova_compile.specs.Forms.{form_bound, banks_bound, IsCodeFor, HasBanks}
use Rattle.novac_commands.specs.Compiling.{IsUnfit}
use Rattle.novac_words.specs.Limits.{slots_limit, budget_default, store_limit}
use Rattle.novac_words.specs.Lines.{verdict_name, refusal_status, refusal_text}
use Rattle.nova_compile.specs.Programs.{HasTyped}
use Rattle.novac_words.specs.declared.refusal.Refusal.{Refusal}
use Rattle.novac_words.specs.declared.status.Status.{Status}
use Rattle.novac_words.specs.declared.status.Status.TheVariants.{Done, WriteFault, NoMemory}

-- the program means this word on the arguments 1 and 2, whatever the memories and the number of calls
abbrev pub MeansWord : ProgramTree → ℕ → Type 0
MeansWord program word = (p : Memories) (calls : ℕ) → (source program (1 ∷ 2 ∷ []) p calls).outcome ≡ Ended (word ∷ [])

-- the seed, the size, the number of bytes, the number of instructions, the verdict with its cost, and the word
abbrev pub generated_text : ℕ → ℕ → ℕ → ℕ → Verdict → ℕ → ℕ → List ℕ
generated_text seed size bytes instructions found cost word =
    codes "gen " ++ decimal seed ++ codes " " ++ decimal size ++ codes " source " ++ decimal bytes ++ codes " length " ++ decimal instructions ++ codes " " ++ verdict_name found ++ codes " " ++ decimal cost ++ codes " outcome " ++ hex_word word ++ 10 ∷ []

-- the line tells the length of the text that the seed makes, that of lawful code that does what its program says, the verdict on its banks
-- with the cost, and the word that the program means
pub record IsGenerated (seed size : ℕ) (line : List ℕ) : Type 0 where
  pub program : ProgramTree
  pub is_source : IsTypedSource (made seed size) program
  pub c : CodeView
  pub code : IsCodeFor program c
  pub short : length c.list ≤ store_limit
  pub brief : length c.list ≤ form_bound program
  pub r : Report
  pub starts : List ℕ
  pub banks : HasBanks program slots_limit [] budget_default c starts r
  pub word : ℕ
  pub means : MeansWord program word
  pub told : line ≡ generated_text seed size (length (made seed size)) (length c.list) r.verdict (report_cost r) word

-- the program of the text isn't compiled
abbrev pub GenRefuses : ℕ → ℕ → Refusal → Type 0
GenRefuses seed size e = HasTyped (made seed size) (λ program. IsUnfit program slots_limit [] budget_default store_limit e)

-- the program of the text is so small that the program of its banks fits, and so its code does
abbrev pub IsSmallMade : ℕ → ℕ → Type 0
IsSmallMade seed size = HasTyped (made seed size) (λ program. banks_bound program ≤ 2 ^ 26)

-- the line was printed, or why it is refused, or the sink or memory failed
abbrev pub EndsGenerated : ℕ → ℕ → Status → Type 0 → List ℕ → List ℕ → Type 0
EndsGenerated seed size status SinkTells before after =
    (status ≡ WriteFault)
    ⊎ (status ≡ NoMemory)
    ⊎ ((status ≡ Done) × ((line : List ℕ) × IsGenerated seed size line × (SinkTells → after ≡ before ++ line)))
    ⊎ ((e : Refusal) × GenRefuses seed size e × (status ≡ refusal_status e) × (SinkTells → after ≡ before ++ refusal_text e))
