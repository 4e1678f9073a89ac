-- Code that does what its source says writes the same as the source, as far as both go.
use Rattle.std.proofs.Common.{◌≡◌, ℕ, zero, suc, ◌^◌, ◌<◌, List, [], ◌∷◌, ◌++◌, Option, Some, None, All, length, take, drop, refl, sym, ap, ◌∙◌, subst, append_assoc, append-nil, unwrap_or, arith, inl, inr}
use Rattle.std.specs.Prelude.{slice_get}
use Rattle.std.proofs.lemmas.List.{take-append-drop, take-map}
use Rattle.std.proofs.lemmas.Bool.{cases_lt}
use Rattle.std.proofs.lemmas.Int.Digits.{digits_value-lt}
use Rattle.std.proofs.lemmas.List.Elements.{All-nil, All-cons}
use Rattle.std.specs.Str.Parse.{digits_value}
use Rattle.nv_lines.specs.Number.{SpellsWord}
use Rattle.nv_base.specs.Memories.{Memories, HasSizes, blank, stored}
use Rattle.nv_base.specs.Meanings.{IsPrefix, seen}
use Rattle.nv_base.specs.declared.outcome.Write.{Write}
use Rattle.nv_base.proofs.Blank.{blank-sizes}
use Rattle.nv_base.proofs.MemoryLemmas.{stored-sizes}
use Rattle.nv_base.proofs.Same.{before-prefix}
use Rattle.nv_ast.specs.Sizes.{main_words}
use Rattle.nv_ast.specs.Tree.{ProgramTree}
use Rattle.nv_meaning_values.specs.Running.{Made, plain}
use Rattle.nv_meaning_values.specs.Notes.{source_made}
use Rattle.nv_meaning.specs.Meaning.{source, traced}
use Rattle.nv_memtext.specs.MemoryText.{Gives, SpellStretches, stretched}
use Rattle.nv_memtext.specs.Spelling.{SpellWords}
use Rattle.nv_memtext.specs.declared.line.Stretch.{Stretch}
use Rattle.nv_memtext.proofs.TextLemmas.{small_sizes}
use Rattle.nv_trace.specs.Unlike.{IsFirstUnlike}
use Rattle.nv_trace.proofs.FirstMade.{plain-source}
use Rattle.uc_isa.specs.Agrees.{Agrees, IsStart}
use Rattle.uc_isa.specs.Code.{CodeView}
use Rattle.uc_isa.specs.Engine.{engine}
use Rattle.uc_isa.proofs.Steps.{engine-grows}
use Rattle.novac_machine.specs.Machine.{spill_base}
use Rattle.novac_commands.specs.Tracing.{made_writes, code_writes, kept_writes}

-- ---- what a memory text gives may start a run

word-small : (p : List ℕ) (w : ℕ) → SpellsWord p w → w < 2 ^ 32
word-small p w h =
    let below : digits_value 16 p < 16 ^ length p = digits_value-lt 16 p h.digits in
    let bound : 16 ^ length p ≡ 16 ^ 8 = ap (λ n. 16 ^ n) h.eight in
    let value : digits_value 16 p ≡ w = h.value in
    omega (arith, below, bound, value)

pub words-small : (ps : List (List ℕ)) (ws : List ℕ) → SpellWords ps ws → All (λ w. w < 2 ^ 32) ws
words-small [] [] h = All-nil (λ (w : ℕ). w < 2 ^ 32)
words-small [] (w ∷ ws) h = absurd h
words-small (p ∷ ps) [] h = absurd h
words-small (p ∷ ps) (w ∷ ws) h = All-cons (λ (w : ℕ). w < 2 ^ 32) w ws (word-small p w h.0) (words-small ps ws h.1)

stretched-sizes : (sram sdram : ℕ) (ls : List (List ℕ)) (ss : List Stretch) (p : Memories) → SpellStretches sram sdram ls ss → HasSizes p → HasSizes (stretched p ss)
stretched-sizes sram sdram [] [] p h sizes = sizes
stretched-sizes sram sdram [] (s ∷ ss) p h sizes = absurd h
stretched-sizes sram sdram (l ∷ ls) [] p h sizes = absurd h
stretched-sizes sram sdram (l ∷ ls) (s ∷ ss) p h sizes = stretched-sizes sram sdram ls ss (unwrap_or (stored s.mem s.at s.words p) p) h.1 (by (stored s.mem s.at s.words p) refl)
  where
    by : (o : Option Memories) → stored s.mem s.at s.words p ≡ o → HasSizes (unwrap_or o p)
    by None e = sizes
    by (Some q) e = stored-sizes s.mem s.at s.words p q sizes (words-small h.0.parts s.words h.0.words) e

given-start : (params : ℕ) (bytes : List ℕ) (p : Memories) (args : List ℕ) → Gives params bytes p args → IsStart params args p spill_base
given-start params bytes p args g =
    let t = g.text in
    let small = small_sizes t.sram t.sdram t.small in
    record {
      words = (t.number, words-small t.arguments.parts args t.arguments.words);
      memories = subst HasSizes (sym t.memories) (stretched-sizes t.sram t.sdram t.others t.stretches (blank t.sram t.sdram) t.spelled (blank-sizes t.sram t.sdram small.0 small.1));
      spills = (omega arith, omega arith);
    }

-- ---- the first writes of the same writes

get-front : (xs rest : List Write) (i : ℕ) → i < length xs → slice_get xs i ≡ slice_get (xs ++ rest) i
get-front [] rest i lt = absurd (omega arith)
get-front (x ∷ xs) rest zero lt = refl
get-front (x ∷ xs) rest (suc i) lt = get-front xs rest i (omega arith)

get-prefix : (n : ℕ) (xs zs : List Write) (i : ℕ) → IsPrefix xs zs → i < length (take n xs) → slice_get (take n xs) i ≡ slice_get zs i
get-prefix n xs zs i p lt =
    get-front (take n xs) (drop n xs ++ p.0) i lt
    ∙ ap (λ l. slice_get l i) (sym (append_assoc (take n xs) (drop n xs) p.0) ∙ ap (λ l. l ++ p.0) (take-append-drop n xs) ∙ sym p.1)

never-unlike : (n : ℕ) (xs ys zs : List Write) (i : ℕ) → IsPrefix xs zs → IsPrefix ys zs → IsFirstUnlike i (take n xs) (take n ys) → ⊥
never-unlike n xs ys zs i p q h = h.3 (get-prefix n xs zs i p h.0 ∙ sym (get-prefix n ys zs i q h.1))

prefix-trans : (xs ys zs : List Write) → IsPrefix xs ys → IsPrefix ys zs → IsPrefix xs zs
prefix-trans xs ys zs p q = (p.0 ++ q.0, q.1 ∙ ap (λ l. l ++ q.0) p.1 ∙ append_assoc xs p.0 q.0)

prefix-itself : (xs : List Write) → IsPrefix xs xs
prefix-itself xs = ([], sym (append-nil xs))

made-plain : (program : ProgramTree) (calls : ℕ) (args : List ℕ) (p : Memories) → plain (made_writes program calls args p) ≡ take kept_writes (seen (source program args p calls)).writes
made-plain program calls args p =
    sym (take-map (λ (m : Made). m.write) kept_writes (source_made (traced program args p calls).writes))
    ∙ ap (take kept_writes) (plain-source (traced program args p calls).writes)

-- so no write differs
pub never-other : (program : ProgramTree) (c : CodeView) (steps calls : ℕ) (memory args : List ℕ) (p : Memories) (i : ℕ) → Agrees (main_words program) (source program) c → Gives (main_words program) memory p args
    → IsFirstUnlike i (plain (made_writes program calls args p)) (code_writes c steps args p) → ⊥
never-other program c steps calls memory args p i agrees given h =
    let w = (agrees.same args p spill_base (given-start (main_words program) memory p args given)).writes calls in
    let made : List Write = (seen (source program args p calls)).writes in
    let run : ℕ → List Write = λ n. (seen (engine c args spill_base p n)).writes in
    let grows = engine-grows c args spill_base p in
    let k : IsFirstUnlike i (take kept_writes made) (take kept_writes (run steps)) = subst (λ l. IsFirstUnlike i l (code_writes c steps args p)) (made-plain program calls args p) h in
    elim (cases_lt w.0 steps) [
      | inl less ↦ never-unlike kept_writes made (run steps) (run steps) i (prefix-trans made (run w.0) (run steps) w.1 (before-prefix (engine c args spill_base p w.0) (engine c args spill_base p steps) (grows w.0 steps (omega arith)))) (prefix-itself (run steps)) k
      | inr most ↦ never-unlike kept_writes made (run steps) (run w.0) i w.1 (before-prefix (engine c args spill_base p steps) (engine c args spill_base p w.0) (grows steps w.0 most)) k
    ]
