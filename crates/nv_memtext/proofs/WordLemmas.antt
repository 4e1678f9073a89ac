-- Parts that spell words, read one by one.
use Rattle.std.proofs.Common.{◌≡◌, ℕ, ◌+◌, ◌<◌, ◌≤◌, List, [], ◌∷◌, ◌++◌, length, take, set, refl, sym, ap, ◌∙◌, subst, arith, append_assoc}
use Rattle.std.proofs.lemmas.List.{append-nil, length-take-le, length-append, length-set}
use Rattle.std.proofs.lemmas.Grind.{take-set_at}
use Rattle.nv_lines.specs.Line.{AllLack}
use Rattle.std.specs.Char.{digit_value}
use Rattle.nv_lines.specs.Number.{SpellsWord}
use Rattle.nv_lines.proofs.NumberLaws.{Lacks-word, word_one}
use Rattle.nv_memtext.specs.Spelling.{SpellWords}

pub SpellWords-append : (ps qs : List (List ℕ)) (vs ws : List ℕ) → SpellWords ps vs → SpellWords qs ws → SpellWords (ps ++ qs) (vs ++ ws)
SpellWords-append [] qs [] ws h k = k
SpellWords-append [] qs (v ∷ vs) ws h k = absurd h
SpellWords-append (p ∷ ps) qs [] ws h k = absurd h
SpellWords-append (p ∷ ps) qs (v ∷ vs) ws h k = (h.0, SpellWords-append ps qs vs ws h.1 k)

-- the first `count` of `words` are those of the parts that were read, and `rest` are left
pub record ReadsWords (all rest : List (List ℕ)) (words : List ℕ) (count : ℕ) : Type 0 where
  pub room : length words ≡ 8
  pub forth : (ws : List ℕ) → SpellWords rest ws → SpellWords all (take count words ++ ws)
  pub back : (ws : List ℕ) → SpellWords all ws → (more : List ℕ) × (ws ≡ take count words ++ more) × SpellWords rest more

pub reads_none : (all : List (List ℕ)) (words : List ℕ) → length words ≡ 8 → ReadsWords all all words 0
reads_none all words room = record { room = room; forth = λ ws h. h; back = λ ws h. (ws, refl, h) }

-- parts of which the first is p spell some word, and the others what is left
pub first_word_of : (p : List ℕ) (rest rest' : List (List ℕ)) (ws : List ℕ) → rest ≡ p ∷ rest' → SpellWords rest ws → (w : ℕ) × (more : List ℕ) × (ws ≡ w ∷ more) × SpellsWord p w × SpellWords rest' more
first_word_of p rest rest' [] e h = absurd (subst (λ q. SpellWords q []) e h)
first_word_of p rest rest' (w ∷ ws) e h = let k : SpellsWord p w × SpellWords rest' ws = subst (λ q. SpellWords q (w ∷ ws)) e h in (w, ws, refl, k.0, k.1)

pub reads_more : (all rest rest' : List (List ℕ)) (p words : List ℕ) (count w : ℕ) → ReadsWords all rest words count → rest ≡ p ∷ rest' → SpellsWord p w → count < 8 → ReadsWords all rest' (set words count w) (count + 1)
reads_more all rest rest' p words count w r e spells lt =
    let inside : count < length words = omega (arith, r.room) in
    let more_taken : take (count + 1) (set words count w) ≡ take count words ++ w ∷ [] = take-set_at words count (count + 1) w refl inside in
    let joined : (ws : List ℕ) → take count words ++ w ∷ ws ≡ take (count + 1) (set words count w) ++ ws =
    λ ws. sym (append_assoc (take count words) (w ∷ []) ws) ∙ ap (λ x. x ++ ws) (sym more_taken) in
    record {
      room = length-set words count w ∙ r.room;
      forth = λ ws h. subst (SpellWords all) (joined ws) (r.forth (w ∷ ws) (subst (λ q. SpellWords q (w ∷ ws)) (sym e) (spells, h)));
      back = λ ws h.
          let b = r.back ws h in
          let f = first_word_of p rest rest' b.0 e b.2 in
          let same = word_one p f.0 w f.3 spells in
          (f.1, b.1 ∙ (ap (λ x. take count words ++ x) f.2 ∙ (ap (λ v. take count words ++ v ∷ f.1) same ∙ joined f.1)), f.4);
    }

-- a ninth word is one too many
pub reads_too_many : (all rest rest' : List (List ℕ)) (p words : List ℕ) → ReadsWords all rest words 8 → rest ≡ p ∷ rest' → (ws : List ℕ) → length ws ≤ 8 → SpellWords all ws → ⊥
reads_too_many all rest rest' p words r e ws few h =
    let b = r.back ws h in
    let f = first_word_of p rest rest' b.0 e b.2 in
    let long : length ws ≡ length (take 8 words) + (length f.1 + 1) = ap length b.1 ∙ (length-append (take 8 words) b.0 ∙ ap (λ x. length (take 8 words) + length x) f.2 ∙ ap (λ n. length (take 8 words) + n) (omega arith)) in
    omega (arith, length-take-le 8 words (omega (arith, r.room)))

-- a part that is no word spells none
pub reads_no_word : (all rest rest' : List (List ℕ)) (p words : List ℕ) (count : ℕ) → ReadsWords all rest words count → rest ≡ p ∷ rest' → ((w : ℕ) → SpellsWord p w → ⊥) → (ws : List ℕ) → length ws ≤ 8 → SpellWords all ws → ⊥
reads_no_word all rest rest' p words count r e none ws few h =
    let b = r.back ws h in
    let f = first_word_of p rest rest' b.0 e b.2 in
    none f.0 f.3

-- when no part is left, the words are those that were read
pub reads_all : (all rest : List (List ℕ)) (words : List ℕ) (count : ℕ) → ReadsWords all rest words count → rest ≡ [] → SpellWords all (take count words)
reads_all all rest words count r e =
    subst (SpellWords all) (append-nil (take count words)) (r.forth [] (subst (λ q. SpellWords q []) (sym e) tt))

pub SpellWords-lack : (c : ℕ) (ps : List (List ℕ)) (ws : List ℕ) → 16 ≤ digit_value c → SpellWords ps ws → AllLack c ps
SpellWords-lack c [] ws h s = tt
SpellWords-lack c (p ∷ ps) [] h s = absurd s
SpellWords-lack c (p ∷ ps) (w ∷ ws) h s = (Lacks-word c w p h s.0, SpellWords-lack c ps ws h s.1)

-- parts spell one list of words
pub SpellWords-one : (ps : List (List ℕ)) (vs ws : List ℕ) → SpellWords ps vs → SpellWords ps ws → vs ≡ ws
SpellWords-one [] [] [] h k = refl
SpellWords-one [] (v ∷ vs) ws h k = absurd h
SpellWords-one [] [] (w ∷ ws) h k = absurd k
SpellWords-one (p ∷ ps) [] ws h k = absurd h
SpellWords-one (p ∷ ps) (v ∷ vs) [] h k = absurd k
SpellWords-one (p ∷ ps) (v ∷ vs) (w ∷ ws) h k =
    let e = word_one p v w h.0 k.0 in let f = SpellWords-one ps vs ws h.1 k.1 in cc (e, f)
