-- Memories after writes.
use Rattle.std.proofs.Common.{◌≡◌, ℕ, ◌+◌, ◌≤◌, ◌<◌, ◌^◌, List, [], ◌∷◌, ◌++◌, Bool, true, false, cond, Some, None, length, take, drop, All, refl, sym, ap, subst, ◌∙◌, if◌then◌else◌, nat_le, arith}
use Rattle.std.proofs.lemmas.List.{length-take, length-drop}
use Rattle.std.proofs.lemmas.List.Elements.{All-append, All-take, All-drop}
use Rattle.std.specs.Prelude.{unwrap_or}
use Rattle.nv_base.specs.declared.term.Mem.{Mem}
use Rattle.nv_base.specs.declared.term.Mem.TheVariants.{Sram, Sdram, Scratch}
use Rattle.nv_base.specs.declared.outcome.Write.{Write}
use Rattle.nv_base.specs.Memories.{Memories, HasSizes, stored, fetched, words_at, with_words, first_word}
use Rattle.nv_base.specs.Meanings.{Meaning, applied, left_by, source_writes, source_memories, is_source_write}
use Rattle.nv_base.specs.Progress.{FollowsAll, FollowsWrites}
use Rattle.nv_base.proofs.Stretches.{splice, splice-front, splice-behind, splice-length, splice-stretch}

-- two memories are alike for a source: they differ at most in the compiler's scratch words
pub record Alike (p q : Memories) : Type 0 where
  pub sram : p.sram ≡ q.sram
  pub sdram : p.sdram ≡ q.sdram
  pub scratch : take 512 p.scratch ≡ take 512 q.scratch
  pub size : length p.scratch ≡ length q.scratch

pub alike-refl : (p : Memories) → Alike p p
alike-refl p = record { sram = refl; sdram = refl; scratch = refl; size = refl }

pub alike-trans : (p q r : Memories) → Alike p q → Alike q r → Alike p r
alike-trans p q r a b = record { sram = a.sram ∙ b.sram; sdram = a.sdram ∙ b.sdram; scratch = a.scratch ∙ b.scratch; size = a.size ∙ b.size }

pub alike-cut : (p q : Memories) → Alike p q → source_memories p ≡ source_memories q
alike-cut p q a =
    ap (λ x. record { sram = x; sdram = p.sdram; scratch = take 512 p.scratch }) a.sram
    ∙ ap (λ x. record { sram = q.sram; sdram = x; scratch = take 512 p.scratch }) a.sdram
    ∙ ap (λ x. record { sram = q.sram; sdram = q.sdram; scratch = x }) a.scratch

-- the memories with a stretch replaced, where it fits
abbrev pub spliced : Bool → Mem → ℕ → List ℕ → Memories → Memories
spliced b m a ws p = unwrap_or (if b then Some (with_words m p (splice a ws (words_at m p))) else None) p

pub spliced-alike : (b : Bool) (m : Mem) (a : ℕ) (ws : List ℕ) (p q : Memories) → nat_le (a + length ws) (length (words_at m p)) ≡ b → Alike p q → Alike (spliced b m a ws p) (spliced b m a ws q)
spliced-alike false m a ws p q e h = h
spliced-alike true Sram a ws p q e h = record { sram = ap (splice a ws) h.sram; sdram = h.sdram; scratch = h.scratch; size = h.size }
spliced-alike true Sdram a ws p q e h = record { sram = h.sram; sdram = ap (splice a ws) h.sdram; scratch = h.scratch; size = h.size }
spliced-alike true Scratch a ws p q e h =
    let fits : a + length ws ≤ length p.scratch = grind arith in
    let fits' : a + length ws ≤ length q.scratch = omega (arith, h.size) in
    record {
      sram = h.sram;
      sdram = h.sdram;
      scratch = splice-front 512 a ws p.scratch q.scratch h.scratch h.size (omega arith);
      size = splice-length a ws p.scratch fits ∙ h.size ∙ sym (splice-length a ws q.scratch fits');
    }

pub long-alike : (m : Mem) (p q : Memories) → Alike p q → length (words_at m p) ≡ length (words_at m q)
long-alike Sram p q h = ap length h.sram
long-alike Sdram p q h = ap length h.sdram
long-alike Scratch p q h = h.size

-- a write leaves memories alike
pub applied-alike : (w : Write) (p q : Memories) → Alike p q → Alike (applied w p) (applied w q)
applied-alike w p q h =
    let a = first_word w.mem w.at in
    let same : nat_le (a + length w.words) (length (words_at w.mem p)) ≡ nat_le (a + length w.words) (length (words_at w.mem q)) = ap (nat_le (a + length w.words)) (long-alike w.mem p q h) in
    subst (λ b. Alike (applied w p) (spliced b w.mem a w.words q)) same (spliced-alike (nat_le (a + length w.words) (length (words_at w.mem p))) w.mem a w.words p q refl h)

spliced-hidden : (b : Bool) (a : ℕ) (ws : List ℕ) (p : Memories) → nat_le (a + length ws) (length p.scratch) ≡ b → 512 ≤ a → Alike (spliced b Scratch a ws p) p
spliced-hidden false a ws p e le = alike-refl p
spliced-hidden true a ws p e le =
    let fits : a + length ws ≤ length p.scratch = grind arith in
    record { sram = refl; sdram = refl; scratch = splice-behind 512 a ws p.scratch le (omega arith); size = splice-length a ws p.scratch fits }

-- a write of the compiler's changes nothing that a source sees
pub hidden-at : (m : Mem) (at : ℕ) (ws : List ℕ) (p : Memories) → is_source_write m at ≡ false → Alike (applied (record { mem = m; at = at; words = ws }) p) p
hidden-at Sram at ws p e = cc
hidden-at Sdram at ws p e = cc
hidden-at Scratch at ws p e = spliced-hidden (nat_le (at + length ws) (length p.scratch)) at ws p refl (grind arith)

alike-step : (b : Bool) (w : Write) (ws : List Write) (p q : Memories) → is_source_write w.mem w.at ≡ b → Alike p q → ((p q : Memories) → Alike p q → Alike (left_by ws p) (left_by (source_writes ws) q))
    → Alike (left_by ws (applied w p)) (left_by (cond b (w ∷ source_writes ws) (source_writes ws)) q)
alike-step true w ws p q e h rest = rest (applied w p) (applied w q) (applied-alike w p q h)
alike-step false w ws p q e h rest = rest (applied w p) q (alike-trans (applied w p) p q (hidden-at w.mem w.at w.words p e) h)

pub left-alike : (ws : List Write) (p q : Memories) → Alike p q → Alike (left_by ws p) (left_by (source_writes ws) q)
left-alike [] p q h = h
left-alike (w ∷ ws) p q h = alike-step (is_source_write w.mem w.at) w ws p q refl h (λ p' q' h'. left-alike ws p' q' h')

-- what follows all writes is seen to follow those that are seen
pub seen_follows : (p : Memories) (m : Meaning) → FollowsAll p m → FollowsWrites p m
seen_follows p m follows = λ i. ap source_memories (follows i) ∙ alike-cut _ _ (left-alike (m i).writes p p (alike-refl p))

-- one write more, after the others
pub left-last : (ws : List Write) (w : Write) (p : Memories) → left_by (ws ++ w ∷ []) p ≡ applied w (left_by ws p)
left-last [] w p = refl
left-last (x ∷ ws) w p = left-last ws w (applied x p)

pub left-append : (ws vs : List Write) (p : Memories) → left_by (ws ++ vs) p ≡ left_by vs (left_by ws p)
left-append [] vs p = refl
left-append (x ∷ ws) vs p = left-append ws vs (applied x p)

-- the words of a memory that was given others
words-with : (m : Mem) (p : Memories) (x : List ℕ) (q : Memories) → Some (with_words m p x) ≡ Some q → x ≡ words_at m q
words-with Sram p x q e = let same : with_words Sram p x ≡ q = cc in ap (λ (r : Memories). r.sram) same
words-with Sdram p x q e = let same : with_words Sdram p x ≡ q = cc in ap (λ (r : Memories). r.sdram) same
words-with Scratch p x q e = let same : with_words Scratch p x ≡ q = cc in ap (λ (r : Memories). r.scratch) same

read-at : (b : Bool) (m : Mem) (a : ℕ) (ws : List ℕ) (p q : Memories) → nat_le (a + length ws) (length (words_at m p)) ≡ b → (if b then Some (with_words m p (splice a ws (words_at m p))) else None) ≡ Some q
    → (a + length ws ≤ length (words_at m q)) × (take (length ws) (drop a (words_at m q)) ≡ ws)
read-at false m a ws p q e s = cc
read-at true m a ws p q e s =
    let fits : a + length ws ≤ length (words_at m p) = grind arith in
    let new : words_at m q ≡ splice a ws (words_at m p) = sym (words-with m p (splice a ws (words_at m p)) q s) in (
      subst (λ x. a + length ws ≤ length x) (sym new) (subst (λ n. a + length ws ≤ n) (sym (splice-length a ws (words_at m p) fits)) fits),
      ap (λ x. take (length ws) (drop a x)) new ∙ splice-stretch a ws (words_at m p) (omega arith),
    )

-- the words of memories, all of them
all-fit : (m : Mem) (p : Memories) → HasSizes p → All (λ w. w < 2 ^ 32) (words_at m p)
all-fit Sram p h = h.sram.1
all-fit Sdram p h = h.sdram.3
all-fit Scratch p h = h.scratch.1

splice-fits : (a : ℕ) (ws x : List ℕ) → All (λ w. w < 2 ^ 32) ws → All (λ w. w < 2 ^ 32) x → All (λ w. w < 2 ^ 32) (splice a ws x)
splice-fits a ws x f g =
    All-append (λ w. w < 2 ^ 32) _ _ (All-append (λ w. w < 2 ^ 32) _ _ (All-take (λ w. w < 2 ^ 32) a x g) f) (All-drop (λ w. w < 2 ^ 32) (a + length ws) x g)

with-sizes : (m : Mem) (p : Memories) (x : List ℕ) → HasSizes p → length x ≡ length (words_at m p) → All (λ w. w < 2 ^ 32) x → HasSizes (with_words m p x)
with-sizes Sram p x h e f = record { sram = (subst (λ n. n ≤ 65536) (sym e) h.sram.0, f); sdram = h.sdram; scratch = h.scratch }
with-sizes Sdram p x h e f = record { sram = h.sram; sdram = (h.sdram.0, h.sdram.1, e ∙ h.sdram.2, f); scratch = h.scratch }
with-sizes Scratch p x h e f = record { sram = h.sram; sdram = h.sdram; scratch = (e ∙ h.scratch.0, f) }

stored-sizes-at : (b : Bool) (m : Mem) (a : ℕ) (ws : List ℕ) (p q : Memories) → nat_le (a + length ws) (length (words_at m p)) ≡ b → HasSizes p → All (λ w. w < 2 ^ 32) ws
    → (if b then Some (with_words m p (splice a ws (words_at m p))) else None) ≡ Some q → HasSizes q
stored-sizes-at false m a ws p q e h f s = cc
stored-sizes-at true m a ws p q e h f s =
    let fits : a + length ws ≤ length (words_at m p) = grind arith in
    let new : with_words m p (splice a ws (words_at m p)) ≡ q = cc in
    subst HasSizes new (with-sizes m p (splice a ws (words_at m p)) h (splice-length a ws (words_at m p) fits) (splice-fits a ws (words_at m p) f (all-fit m p h)))

-- memories keep their sizes when words are written
pub stored-sizes : (m : Mem) (at : ℕ) (ws : List ℕ) (p q : Memories) → HasSizes p → All (λ w. w < 2 ^ 32) ws → stored m at ws p ≡ Some q → HasSizes q
stored-sizes m at ws p q h f s = stored-sizes-at (nat_le (first_word m at + length ws) (length (words_at m p))) m (first_word m at) ws p q refl h f s

fetched-words-at : (b : Bool) (a n : ℕ) (x ws : List ℕ) → nat_le (a + n) (length x) ≡ b → All (λ w. w < 2 ^ 32) x → (if b then Some (take n (drop a x)) else None) ≡ Some ws → (length ws ≡ n) × All (λ w. w < 2 ^ 32) ws
fetched-words-at false a n x ws e f s = cc
fetched-words-at true a n x ws e f s =
    let fits : a + n ≤ length x = grind arith in
    let is : take n (drop a x) ≡ ws = cc in
    let long : length (take n (drop a x)) ≡ n = grind (arith, length-take, length-drop) in
    (sym (ap length is) ∙ long, subst (All (λ w. w < 2 ^ 32)) is (All-take (λ w. w < 2 ^ 32) n (drop a x) (All-drop (λ w. w < 2 ^ 32) a x f)))

-- as many words are fetched as were asked for, and they fit
pub fetched-words : (m : Mem) (at n : ℕ) (p : Memories) (ws : List ℕ) → HasSizes p → fetched m at n p ≡ Some ws → (length ws ≡ n) × All (λ w. w < 2 ^ 32) ws
fetched-words m at n p ws h s = fetched-words-at (nat_le (first_word m at + n) (length (words_at m p))) (first_word m at) n (words_at m p) ws refl (all-fit m p h) s

-- what was written is read
pub written_read : (m : Mem) (at : ℕ) (ws : List ℕ) (p q : Memories) → stored m at ws p ≡ Some q → fetched m at (length ws) q ≡ Some ws
written_read m at ws p q s =
    let r = read-at (nat_le (first_word m at + length ws) (length (words_at m p))) m (first_word m at) ws p q refl s in
    let le : nat_le (first_word m at + length ws) (length (words_at m q)) ≡ true = grind (arith, r.0) in
    ap (λ b. if b then Some (take (length ws) (drop (first_word m at) (words_at m q))) else None) le ∙ ap Some r.1
