-- What the code writes into its own words of scratch, a source doesn't see.
use Rattle.std.proofs.Common.{◌≡◌, ℕ, suc, ◌+◌, ◌<◌, ◌≤◌, List, [], ◌∷◌, ◌++◌, All, Some, Bool, false, length, refl, ap, sym, ◌∙◌, subst, arith, append_assoc}
use Rattle.std.proofs.lemmas.Bool.{le-ltb}
use Rattle.std.proofs.lemmas.List.{append-nil}
use Rattle.std.proofs.lemmas.List.Elements.{All-append, All-cons, All-nil, filter-append}
use Rattle.std.specs.Prelude.{unwrap_or, if◌then◌else◌}
use Rattle.nv_base.specs.declared.term.Mem.TheVariants.{Scratch}
use Rattle.nv_base.specs.declared.outcome.Write.{Write as WriteEvent}
use Rattle.nv_base.specs.Memories.{Memories, stored}
use Rattle.nv_base.specs.Meanings.{left_by, source_memories, source_writes, is_source_write}
use Rattle.nv_base.proofs.MemoryLemmas.{Alike, alike-cut, alike-refl, left-alike, left-append}
use Rattle.uc_isa.specs.Pieces.{Moment, IsOwn, WritesOwn, SeenAlike}
use Rattle.uc_isa.specs.declared.engine.Engine.{Engine}

pub own-none : (base : ℕ) (a : Moment) (e : Engine) → WritesOwn base a (record { engine = e; packet = a.packet; writes = a.writes })
own-none base a e = record { own = []; each = All-nil (IsOwn base); writes = sym (append-nil a.writes); packet = refl }

pub own-then : (base : ℕ) (a b c : Moment) → WritesOwn base a b → WritesOwn base b c → WritesOwn base a c
own-then base a b c x y = record {
  own = x.own ++ y.own;
  each = All-append (IsOwn base) x.own y.own x.each y.each;
  writes = y.writes ∙ ap (λ ws. ws ++ y.own) x.writes ∙ append_assoc a.writes x.own y.own;
  packet = y.packet ∙ ap (λ p. left_by y.own p) x.packet ∙ sym (left-append x.own y.own a.packet);
}

pub own-write : (base at : ℕ) (ws : List ℕ) (a : Moment) (e : Engine) (q : Memories) → stored Scratch at ws a.packet ≡ Some q → base ≤ at → at + length ws ≤ base + 128
    → WritesOwn base a (record { engine = e; packet = q; writes = a.writes ++ record { mem = Scratch; at = at; words = ws } ∷ [] })
own-write base at ws a e q h low high = record {
  own = record { mem = Scratch; at = at; words = ws } ∷ [];
  each = All-cons (IsOwn base) (record { mem = Scratch; at = at; words = ws }) [] (refl, low, high) (All-nil (IsOwn base));
  writes = refl;
  packet = sym (ap (λ o. unwrap_or o a.packet) h);
}

own-unseen : (base : ℕ) (w : WriteEvent) → 512 ≤ base → IsOwn base w → is_source_write w.mem w.at ≡ false
own-unseen base w low h =
    ap (λ m. is_source_write m w.at) h.0 ∙ le-ltb w.at 512 (omega (arith, h.1))

unseen-first : (w : WriteEvent) (ws : List WriteEvent) (b : Bool) → is_source_write w.mem w.at ≡ b → b ≡ false → source_writes (w ∷ ws) ≡ source_writes ws
unseen-first w ws b e f = ap (λ c. if c then (w ∷ source_writes ws) else source_writes ws) (e ∙ f)

own-hidden : (base : ℕ) (ws : List WriteEvent) → 512 ≤ base → All (IsOwn base) ws → source_writes ws ≡ []
own-hidden base [] low h = refl
own-hidden base (w ∷ ws) low h =
    let some : 0 < length (w ∷ ws) = omega arith in
    unseen-first w ws false (own-unseen base w low (h 0 w some)) refl ∙ own-hidden base ws low (λ k d lt. h (suc k) d (omega arith))

pub own-seen : (base : ℕ) (a b : Moment) → 512 ≤ base → WritesOwn base a b → SeenAlike a b
own-seen base a b low x =
    let none : source_writes x.own ≡ [] = own-hidden base x.own low x.each in
    let alike : Alike (left_by x.own a.packet) a.packet = subst (λ ws. Alike (left_by x.own a.packet) (left_by ws a.packet)) none (left-alike x.own a.packet a.packet (alike-refl a.packet)) in
    record {
      packet = ap source_memories x.packet ∙ alike-cut (left_by x.own a.packet) a.packet alike;
      writes = ap source_writes x.writes ∙ filter-append (λ w. is_source_write w.mem w.at) a.writes x.own ∙ ap (λ ws. source_writes a.writes ++ ws) none ∙ append-nil (source_writes a.writes);
    }
