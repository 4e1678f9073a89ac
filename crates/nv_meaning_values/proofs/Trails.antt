-- What a trace keeps after many writes.
use Rattle.std.proofs.Common.{◌≡◌, ℕ, zero, suc, ◌+◌, ◌<◌, Bool, true, false, List, [], ◌∷◌, ◌++◌, All, cond, length, map, get_or, nat_lt, refl, sym, ap, ◌∙◌, if◌then◌else◌, arith}
use Rattle.std.proofs.lemmas.List.{map-append, length-map}
use Rattle.std.proofs.lemmas.List.{get_or_append_left}
use Rattle.nv_base.specs.Meanings.{is_source_write}
use Rattle.nv_meaning_values.specs.Notes.{Trail, HasRoom, traced_one, traced_all, source_made}
use Rattle.nv_meaning_values.specs.Chains.{Kept, made_in, trail_of, kept_one, kept_source}
use Rattle.nv_meaning_values.specs.declared.trace.Made as code
use Rattle.nv_meaning_values.specs.Running.{Made}

-- the writes so far, and then these
pub traced-append : (xs ys : List Made) (t : Trail) → traced_all t (xs ++ ys) ≡ traced_all (traced_all t xs) ys
traced-append [] ys t = refl
traced-append (m ∷ xs) ys t = traced-append xs ys (traced_one t m)

room-one : (b : Bool) (t : Trail) (m : Made) → nat_lt (length t.kept) t.keep ≡ b → length (if b then t.kept ++ m ∷ [] else t.kept) < t.keep → HasRoom t
room-one true t m e h = grind arith
room-one false t m e h = h

-- where there is room after some writes, there was before
pub room-before : (ms : List Made) (t : Trail) → HasRoom (traced_all t ms) → HasRoom t
room-before [] t h = h
room-before (m ∷ ms) t h = room-one (nat_lt (length t.kept) t.keep) t m refl (room-before ms (traced_one t m) h)

-- ---- what a trace keeps, with the names of the chains

-- further chains change nothing
pub chains-more : (chains : List (List (List ℕ))) (names : List (List ℕ)) (kept : List code.Made) → All (λ m. m.chain < length chains) kept → map (made_in (chains ++ names ∷ [])) kept ≡ map (made_in chains) kept
chains-more chains names [] h = refl
chains-more chains names (m ∷ ms) h =
    ap (λ n. record { write = m.write; span = m.span; chain = n } ∷ map (made_in (chains ++ names ∷ [])) ms) (get_or_append_left chains (names ∷ []) [] m.chain (h zero m (omega arith)))
    ∙ ap (λ l. made_in chains m ∷ l) (chains-more chains names ms (λ i d less. h (suc i) d (omega arith)))

module _ (t : Kept) (m : code.Made) (names : List (List ℕ)) (known : HasRoom (trail_of t) → get_or t.chains m.chain [] ≡ names) where
  abbrev the_made : Made
  the_made = record { write = m.write; span = m.span; chain = names }

  one-by : (b : Bool) → nat_lt (length t.kept) t.keep ≡ b → map (made_in t.chains) (if b then t.kept ++ m ∷ [] else t.kept) ≡ (if b then map (made_in t.chains) t.kept ++ the_made ∷ [] else map (made_in t.chains) t.kept)
  one-by true e =
      let l : length (map (made_in t.chains) t.kept) ≡ length t.kept = length-map t.kept (made_in t.chains) in
      let r : length t.kept < t.keep = grind arith in
      map-append (made_in t.chains) t.kept (m ∷ [])
      ∙ ap (λ n. map (made_in t.chains) t.kept ++ record { write = m.write; span = m.span; chain = n } ∷ []) (known (omega arith))
  one-by false e = refl

  note-one : trail_of (kept_one t m) ≡ traced_one (trail_of t) the_made
  note-one =
      ap (λ k. record { keep = t.keep; kept = k; count = t.count + 1 })
      (one-by (nat_lt (length t.kept) t.keep) refl
      ∙ ap (λ n. if nat_lt n t.keep then map (made_in t.chains) t.kept ++ the_made ∷ [] else map (made_in t.chains) t.kept) (sym (length-map t.kept (made_in t.chains))))

  note-by : (b : Bool) → trail_of (if b then kept_one t m else t) ≡ traced_all (trail_of t) (cond b (the_made ∷ []) [])
  note-by true = note-one
  note-by false = refl

  pub note-trail : trail_of (kept_source t m) ≡ traced_all (trail_of t) (source_made (the_made ∷ []))
  note-trail = note-by (is_source_write m.write.mem m.write.at)
