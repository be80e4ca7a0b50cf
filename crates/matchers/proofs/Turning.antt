-- What each turn makes of a walk.
use Rattle.std.proofs.Common.{◌≡◌, ℕ, ◌+◌, ◌-◌, ◌*◌, ◌<◌, ◌≤◌, true, false, ◌||◌, eqb, List, [], ◌∷◌, length, get_or, take, drop, Some, None, Option, sym, refl, ap, ◌∙◌, suc, mul-le-mul_right, add-mul, arith}
use Rattle.std.proofs.lemmas.Bool.{false≢true}
use Rattle.std.proofs.lemmas.List.{take_all}
use Rattle.matchers.specs.declared.walk.Place.{Place}
use Rattle.matchers.specs.declared.walk.Walk.{Walk}
use Rattle.matchers.specs.Patterns.{matched}
use Rattle.matchers.specs.Walks.{all_runs, fits, fits_later, answers_at, answers, Behind, Sound_at, Sound, since, Turned}
use Rattle.matchers.proofs.Stepping.{run_later, run_earlier, byte_matched, byte_moves, ends, absorbed}
use Rattle.matchers.proofs.Suffixes.{suffix_or_later}

-- past a `*`
module _ (at behind : Place) (p : at.pattern.now ≡ 42 ∷ behind.pattern.now) (n : behind.name.now ≡ at.name.now) where
  run_fits : (fits behind || fits_later behind) ≡ fits at
  run_fits = rw (p, n) (sym (run_later 42 behind.pattern.now refl at.name.now))

  run_back : fits_later at ≡ true → fits at ≡ true
  run_back = rw p (run_earlier 42 behind.pattern.now refl at.name.now)

  run_same : (retry : Option Place) → Sound_at at retry → (fits behind || fits_later behind) ≡ answers_at at retry
  run_same None s = run_fits
  run_same (Some last) s = run_fits ∙ sym (absorbed (fits at) (fits_later last) (λ l. run_back (s.ahead l)))

-- past a byte that is taken
module _ (at next : Place) (b x : ℕ) (p : at.pattern.now ≡ b ∷ next.pattern.now) (n : at.name.now ≡ x ∷ next.name.now) (other : eqb b 42 ≡ false) (taken : (eqb b 63 || eqb b x) ≡ true) where
  byte_fits : fits next ≡ fits at
  byte_fits =
      rw (p, n, byte_matched b next.pattern.now other x next.name.now, taken) refl

  byte_later : fits_later at ≡ true → fits_later next ≡ true
  byte_later = rw (p, n) (byte_moves b next.pattern.now other x next.name.now)

  byte_same : (retry : Option Place) → answers_at next retry ≡ answers_at at retry
  byte_same None = byte_fits
  byte_same (Some last) = ap (λ v. v || fits_later last) byte_fits

  byte_sound : (retry : Option Place) → Sound_at at retry → Sound_at next retry
  byte_sound None s = tt
  byte_sound (Some last) s =
      record {
        before = let b = s.before in let e = ap length n in omega arith;
        ahead = λ l. byte_later (s.ahead l);
      }

-- back to the last `*`
module _ (at last again : Place) (x : ℕ) (p : again.pattern.now ≡ last.pattern.now) (n : last.name.now ≡ x ∷ again.name.now) where
  again_same : fits at ≡ false → (fits again || fits_later again) ≡ answers_at at (Some last)
  again_same stuck =
      rw (stuck, n, p) (sym (suffix_or_later (matched last.pattern.now) again.name.now))

-- how many turns are left
more_run : (k i s m : ℕ) → s ≤ k → s * (m + 1) + i < k * (m + 1) + suc i
more_run k i s m h = let p = mul-le-mul_right (m + 1) h in omega arith

more_again : (k i j m : ℕ) → j ≤ m → k * (m + 1) + j < suc k * (m + 1) + i
more_again k i j m h = let e = add-mul k 1 (m + 1) in omega arith

-- where the present attempt began, no less of the name was to go
since_before : (at : Place) (retry : Option Place) → Sound_at at retry → length at.name.now ≤ since at retry
since_before at None s = omega arith
since_before at (Some last) s = s.before

since_next : (at next : Place) (retry : Option Place) (x : ℕ) → at.name.now ≡ x ∷ next.name.now → since next retry ≤ since at retry
since_next at next None x n = let e = ap length n in omega arith
since_next at next (Some last) x n = omega arith

-- a walk that begins at a place behind a `*`
begun : (at : Place) → Behind at at
begun at = record { before = omega arith; ahead = λ l. l }

module _ (w : Walk) (sound : Sound w) where
  pub turned_run : (behind : Place) → w.at.pattern.now ≡ 42 ∷ behind.pattern.now → behind.name.now ≡ w.at.name.now → Turned w (record { at = behind; retry = Some behind })
  turned_run behind p n =
      let shorter = ap length p in
      let same_name = ap length n in
      record {
        sound = begun behind;
        same = run_same w.at behind p n w.retry sound;
        near = omega arith;
        fewer = λ most h. (
          (omega (arith, h.0), omega (arith, h.0)),
          rw (p, n) (more_run (since w.at w.retry) (length behind.pattern.now) (length w.at.name.now) most (since_before w.at w.retry sound)),
        );
      }

  pub turned_byte : (next : Place) (b x : ℕ) → w.at.pattern.now ≡ b ∷ next.pattern.now → w.at.name.now ≡ x ∷ next.name.now → eqb b 42 ≡ false → (eqb b 63 || eqb b x) ≡ true → Turned w (record { at = next; retry = w.retry })
  turned_byte next b x p n other taken =
      record {
        sound = byte_sound w.at next b x p n other taken w.retry sound;
        same = byte_same w.at next b x p n other taken w.retry;
        near = let e = ap length n in omega arith;
        fewer = λ most h.
            let shorter = ap length p in (
              (omega (arith, h.0), h.1),
              rw p (more_run (since w.at w.retry) (length next.pattern.now) (since next w.retry) most (since_next w.at next w.retry x n)),
            );
      }

  pub last_within : (last : Place) → w.retry ≡ Some last → length w.at.name.now ≤ length last.name.now
  last_within last r =
      let b = since_before w.at w.retry sound in
      let e = ap (since w.at) r in
      omega arith

  pub turned_again : (last again : Place) (x : ℕ) → w.retry ≡ Some last → fits w.at ≡ false → again.pattern.now ≡ last.pattern.now → last.name.now ≡ x ∷ again.name.now → Turned w (record { at = again; retry = Some again })
  turned_again last again x r stuck p n =
      record {
        sound = begun again;
        same = again_same w.at last again x p n stuck ∙ ap (answers_at w.at) (sym r);
        near = let b = last_within last r in let e = ap length n in omega arith;
        fewer = λ most h.
            let i : length last.pattern.now ≤ most = rw r at h.1 in (
              (rw p i, rw p i),
              rw (r, n, p) (more_again (length again.name.now) (length w.at.pattern.now) (length last.pattern.now) most i),
            );
      }

pub turned_nowhere : (w : Walk) → w.retry ≡ None → fits w.at ≡ false → answers w ≡ false
turned_nowhere w r stuck = ap (answers_at w.at) r ∙ stuck

-- at the end of the name
ended : (name : List ℕ) → length name ≡ 0 → name ≡ []
ended [] h = refl
ended (x ∷ xs) h = absurd (omega arith)

end_answer : (at : Place) (retry : Option Place) → Sound_at at retry → at.name.now ≡ [] → answers_at at retry ≡ all_runs at.pattern.now
end_answer at None s n = rw n (ends at.pattern.now)
end_answer at (Some last) s n =
    let none : fits_later at ≡ true → ⊥ = rw n false≢true in
    absorbed (fits at) (fits_later last) (λ l. absurd (none (s.ahead l))) ∙ (rw n (ends at.pattern.now))

pub walk_ends : (w : Walk) → Sound w → length w.at.name.now ≡ 0 → answers w ≡ all_runs w.at.pattern.now
walk_ends w sound h = end_answer w.at w.retry sound (ended w.at.name.now h)

-- a list that is not empty, and what is behind its first element
pub split_first : (l : List ℕ) → 1 ≤ length l → l ≡ get_or l 0 0 ∷ take (length l - 1) (drop 1 l)
split_first [] h = absurd (omega arith)
split_first (x ∷ xs) h =
    let e : take (length (x ∷ xs) - 1) xs ≡ xs = take_all (length (x ∷ xs) - 1) xs (omega arith) in
    ap (λ t. x ∷ t) (sym e)
