-- The keywords and the signs are spelled as the tables say, by computation.
use Rattle.std.proofs.Common.{◌≡◌, ℕ, Bool, true, false, List, [], ◌∷◌, refl}
use Rattle.std.specs.Prelude.{Some, ◌&&◌, codes}
use Rattle.std.proofs.lemmas.Bool.{and_parts}
use Rattle.nv_base.specs.Name.{IsWord}
use Rattle.nv_text.specs.inner.Classes.{starts_word}
use Rattle.nv_text.specs.Spelling.{Every, keyword_of, sign_of}
use Rattle.nv_text.specs.Spelt.{AreSpelt, spelt_keywords, spelt_signs, spelt_operators}
use Rattle.nv_text.proofs.Bytes.{in_word, passes_letter, pass_letters}

abbrev all_in_word : List ℕ → Bool
all_in_word [] = true
all_in_word (b ∷ w) = in_word b && all_in_word w

abbrev word_test : List ℕ → Bool
word_test [] = false
word_test (b ∷ w) = starts_word b && all_in_word w

every_in_word : (w : List ℕ) → all_in_word w ≡ true → Every in_word w
every_in_word [] e = tt
every_in_word (b ∷ w) e = let h = and_parts (in_word b) (all_in_word w) e in (h.0, every_in_word w h.1)

tested_word : (w : List ℕ) → word_test w ≡ true → IsWord w
tested_word [] e = let h : ⊥ = cc in absurd h
tested_word (b ∷ w) e = let h = and_parts (starts_word b) (all_in_word w) e in (passes_letter b h.0, pass_letters w (every_in_word w h.1))

spelt_key : (w : List ℕ) (k : ℕ) → word_test w ≡ true → keyword_of w ≡ Some k → IsWord w × (keyword_of w ≡ Some k)
spelt_key w k e f = (tested_word w e, f)

pub keywords_spelt : AreSpelt spelt_keywords
unfolding keyword_of
keywords_spelt = (
  λ s. spelt_key (codes "layout") 0 refl refl,
  (
    λ s. spelt_key (codes "exception") 1 refl refl,
    (
      λ s. spelt_key (codes "fun") 2 refl refl,
      (
        λ s. spelt_key (codes "and") 3 refl refl,
        (
          λ s. spelt_key (codes "let") 4 refl refl,
          (
            λ s. spelt_key (codes "if") 5 refl refl,
            (
              λ s. spelt_key (codes "else") 6 refl refl,
              (
                λ s. spelt_key (codes "unpack") 7 refl refl,
                (
                  λ s. spelt_key (codes "pack") 8 refl refl,
                  (
                    λ s. spelt_key (codes "raise") 9 refl refl,
                    (
                      λ s. spelt_key (codes "try") 10 refl refl,
                      (
                        λ s. spelt_key (codes "handle") 11 refl refl,
                        (
                          λ s. spelt_key (codes "sram") 12 refl refl,
                          (
                            λ s. spelt_key (codes "sdram") 13 refl refl,
                            (
                              λ s. spelt_key (codes "scratch") 14 refl refl,
                              (
                                λ s. spelt_key (codes "word") 15 refl refl,
                                (
                                  λ s. spelt_key (codes "bool") 16 refl refl,
                                  (
                                    λ s. spelt_key (codes "packed") 17 refl refl,
                                    (
                                      λ s. spelt_key (codes "unpacked") 18 refl refl,
                                      (
                                        λ s. spelt_key (codes "overlay") 19 refl refl,
                                        (
                                          λ s. spelt_key (codes "true") 20 refl refl,
                                          (λ s. spelt_key (codes "false") 21 refl refl, (λ s. spelt_key (codes "_") 22 refl refl, tt)),
                                        ),
                                      ),
                                    ),
                                  ),
                                ),
                              ),
                            ),
                          ),
                        ),
                      ),
                    ),
                  ),
                ),
              ),
            ),
          ),
        ),
      ),
    ),
  ),
)

pub signs_spelt : AreSpelt spelt_signs
unfolding sign_of
signs_spelt = (
  λ s. refl,
  (
    λ s. refl,
    (
      λ s. refl,
      (
        λ s. refl,
        (
          λ s. refl,
          (
            λ s. refl,
            (
              λ s. refl,
              (
                λ s. refl,
                (λ s. refl, (λ s. refl, (λ s. refl, (λ s. refl, (λ s. refl, (λ s. refl, (λ s. refl, (λ s. refl, tt)))))))),
              ),
            ),
          ),
        ),
      ),
    ),
  ),
)

pub operators_spelt : AreSpelt spelt_operators
unfolding keyword_of sign_of
operators_spelt = (
  λ s. refl,
  (
    λ s. refl,
    (
      λ s. refl,
      (
        λ s. refl,
        (
          λ s. refl,
          (
            λ s. refl,
            (
              λ s. refl,
              (
                λ s. refl,
                (
                  λ s. refl,
                  (
                    λ s. refl,
                    (
                      λ s. refl,
                      (
                        λ s. refl,
                        (
                          λ s. refl,
                          (
                            λ s. refl,
                            (
                              λ s. refl,
                              (
                                λ s. refl,
                                (λ s. spelt_key (codes "sram") 12 refl refl, (λ s. spelt_key (codes "sdram") 13 refl refl, (λ s. spelt_key (codes "scratch") 14 refl refl, tt))),
                              ),
                            ),
                          ),
                        ),
                      ),
                    ),
                  ),
                ),
              ),
            ),
          ),
        ),
      ),
    ),
  ),
)
