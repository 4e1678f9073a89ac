-- Compilations under the weights that the files give.
use Rattle.std.proofs.Common.{ℕ, ◌⊎◌, inl, inr, List, Result, Ok, Err, IfOk, IfErr}
use Rattle.novac_words.specs.Lines.{IsUncaused}
use Rattle.novac_words.specs.declared.refusal.Refusal.{Refusal}
use Rattle.novac_machine.specs.declared.save.Made.{Made}
use Rattle.novac_machine.specs.inner.Files.{files_of}
use Rattle.novac_commands.specs.Compiling.{CompileMakes, CompileRefuses, WeighedMakes, WeighedRefuses}
use Rattle.novac_commands.specs.Weighing.{AreWeighed}

pub weighed-made : (text : List ℕ) (given : List (List ℕ)) (object report : List ℕ) (slots : ℕ) (ws : List ℕ) (budget store : ℕ) (r : Result Made Refusal) → AreWeighed given ws
    → IfOk r (λ m. CompileMakes text object report slots ws budget store m.status (files_of m.outputs) m.text.items) → IfOk r (λ m. WeighedMakes text given object report slots budget store m.status (files_of m.outputs) m.text.items)
weighed-made text given object report slots ws budget store (Ok m) weighed h = (ws, weighed, h)
weighed-made text given object report slots ws budget store (Err e) weighed h = tt

refused-so : (text : List ℕ) (given : List (List ℕ)) (slots : ℕ) (ws : List ℕ) (budget store : ℕ) (e : Refusal) → AreWeighed given ws → IsUncaused e ⊎ CompileRefuses text slots ws budget store e → IsUncaused e ⊎ WeighedRefuses text given slots budget store e
refused-so text given slots ws budget store e weighed (inl u) = inl u
refused-so text given slots ws budget store e weighed (inr (inl h)) = inr (inl (inl h))
refused-so text given slots ws budget store e weighed (inr (inr h)) = inr (inr (ws, weighed, h))

pub weighed-refused : (text : List ℕ) (given : List (List ℕ)) (slots : ℕ) (ws : List ℕ) (budget store : ℕ) (r : Result Made Refusal) → AreWeighed given ws
    → IfErr r (λ e. IsUncaused e ⊎ CompileRefuses text slots ws budget store e) → IfErr r (λ e. IsUncaused e ⊎ WeighedRefuses text given slots budget store e)
weighed-refused text given slots ws budget store (Ok m) weighed h = tt
weighed-refused text given slots ws budget store (Err e) weighed h = refused-so text given slots ws budget store e weighed h
