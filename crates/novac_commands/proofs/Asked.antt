-- The files that a command saves are among its outputs.
use Rattle.std.proofs.Common.{◌≡◌, ℕ, inl, inr, List, [], ◌∷◌, map, refl, sym, subst}
use Rattle.nv_outside.specs.Calls.{Save, IsPart}
use Rattle.novac_words.specs.Command.{Command, Compile, Run, Exec, Asm, Dis, Lint, Check, Gen, Contexts, Peep, Trace, Counts, outputs_of}
use Rattle.novac_words.specs.declared.status.Status.{Status}
use Rattle.novac_words.specs.declared.status.Status.TheVariants.{Done, Infeasible, BudgetSpent}
use Rattle.novac_commands.specs.Answers.{Makes}
use Rattle.novac_commands.specs.Compiling.{CompileMakes}
use Rattle.novac_machine.specs.Saving.{File, saves_of}

-- the saves of these files are some of these
abbrev pub SavesPart : List (List ℕ) → List File → Type 0
SavesPart names files = IsPart (saves_of files) (map (λ (name : List ℕ). Save name) names)

part-by : (names : List (List ℕ)) (files others : List File) → files ≡ others → SavesPart names others → SavesPart names files
part-by names files others e h = subst (SavesPart names) (sym e) h

compiled-part : (text object report : List ℕ) (slots : ℕ) (ws : List ℕ) (budget store : ℕ) (s : Status) (fs : List File) (t : List ℕ) → CompileMakes text object report slots ws budget store s fs t → SavesPart (object ∷ report ∷ []) fs
compiled-part text object report slots ws budget store Done fs t h = part-by (object ∷ report ∷ []) fs _ h.saves (inl (refl, inl (refl, tt)))
compiled-part text object report slots ws budget store Infeasible fs t h = part-by (object ∷ report ∷ []) fs _ h.0.saves (inr (inl (refl, tt)))
compiled-part text object report slots ws budget store BudgetSpent fs t h = part-by (object ∷ report ∷ []) fs _ h.0.saves (inr (inl (refl, tt)))
compiled-part text object report slots ws budget store _ fs t h = absurd h

pub made-part : (c : Command) (bs : List (List ℕ)) (s : Status) (fs : List File) (t : List ℕ) → Makes c bs s fs t → SavesPart (outputs_of c) fs
made-part (Compile source object report slots budget store weights) (b ∷ g) s fs t h = compiled-part b object report slots h.0 budget store s fs t h.2
made-part (Run object memory steps) (b ∷ g ∷ []) s fs t h = part-by [] fs [] h.0 tt
made-part (Exec source memory calls) (b ∷ g ∷ []) s fs t h = part-by [] fs [] h.0 tt
made-part (Asm input object) (b ∷ []) s fs t h = part-by (object ∷ []) fs _ h.saves (inl (refl, tt))
made-part (Dis object) (b ∷ []) s fs t h = part-by [] fs [] h.0 tt
made-part (Lint object) (b ∷ []) s fs t h = part-by [] fs [] h.0 tt
made-part (Check report) (b ∷ []) s fs t h = part-by [] fs [] h.0 tt
made-part (Gen seed size) [] s fs t h = part-by [] fs [] h.0 tt
made-part (Contexts object memory schedule) (b ∷ g ∷ u ∷ []) s fs t h = part-by [] fs [] h.0 tt
made-part (Trace source object memory steps calls line) (b ∷ g ∷ u ∷ []) s fs t h = part-by [] fs [] h.0 tt
made-part (Peep object output) (b ∷ []) s fs t h = part-by (output ∷ []) fs _ h.saves (inl (refl, tt))
made-part (Counts source memory output jumps) (b ∷ g ∷ []) s fs t h = part-by (output ∷ []) fs _ h.saves (inl (refl, tt))
made-part _ _ s fs t h = absurd h
