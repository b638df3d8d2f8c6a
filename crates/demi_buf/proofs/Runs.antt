-- Places of which the first hold bytes.
use Rattle.std.proofs.Common.{◌≡◌, ℕ, zero, suc, ◌+◌, ◌-◌, ◌≤◌, ◌<◌, List, [], ◌∷◌, ◌++◌, map, length, take, drop, set, replicate, Option, Some, refl, sym, ap, ◌∙◌, subst, arith, length-append, length-take, length-drop, append_assoc, append-nil, take-append-drop, take_all}
use Rattle.std.proofs.lemmas.List.{length-map, length-replicate, take-map, map-append}
use Rattle.std.proofs.Math.Seq.{take-append_seam}
use Rattle.std.specs.List.{refill, length_refill}
use Rattle.demi_buf.specs.Places.{somes, IsRun, cleared}

pub somes-map : {X : Type 0} (xs : List X) → somes (map Some xs) ≡ xs
somes-map [] = refl
somes-map (x ∷ xs) = ap (λ l. x ∷ l) (somes-map xs)

map-replicate : {X : Type 0} (n : ℕ) (x : X) → map Some (replicate n x) ≡ replicate n (Some x)
map-replicate zero x = refl
map-replicate (suc n) x = ap (λ l. Some x ∷ l) (map-replicate n x)

take_less : {X : Type 0} (n m : ℕ) (cs : List X) → n ≤ m → take n (take m cs) ≡ take n cs
take_less zero m cs le = refl
take_less (suc n) zero cs le = absurd (omega arith)
take_less (suc n) (suc m) [] le = refl
take_less (suc n) (suc m) (c ∷ cs) le = ap (λ l. c ∷ l) (take_less n m cs (omega arith))

front : {X : Type 0} (xs ys : List X) (n : ℕ) → n ≡ length xs → take n (xs ++ ys) ≡ xs
front xs ys n e = ap (λ k. take k (xs ++ ys)) e ∙ take-append_seam xs ys

-- no byte counts yet
pub none_filled : {X : Type 0} (cs : List (Option X)) → IsRun cs 0 0
none_filled cs = (omega arith, ([], refl))

module _ {X : Type 0} (cs : List (Option X)) (n : ℕ) (run : IsRun cs 0 n) where
  abbrev xs : List X
  xs = somes (take n cs)

  -- the first n places hold these bytes
  pub whole : take n cs ≡ map Some xs
  whole = run.1.1 ∙ ap (map Some) (sym (ap somes run.1.1 ∙ somes-map run.1.0))

  pub count : length xs ≡ n
  count = let le = run.0 in let l : length (take n cs) ≡ length xs = ap length whole ∙ length-map xs Some in omega (arith, length-take n cs, l, le)

  pub shown : (ys : List X) → take n (drop 0 cs) ≡ map Some ys → ys ≡ xs
  shown ys e = sym (ap somes e ∙ somes-map ys)

  -- they are written over
  pub written : (ws : List X) → let ds = map Some (refill n xs ws) ++ drop (0 + n) cs in
      (length ds ≡ length cs) × IsRun ds 0 n × (somes (take n ds) ≡ refill n xs ws)
  written ws =
      let ys = refill n xs ws in let le = run.0 in
      let many : length ys ≡ n = sym (length_refill n xs ws (sym count)) in
      let long = length-append (map Some ys) (drop n cs) in
      let got : take n (map Some ys ++ drop n cs) ≡ map Some ys = front (map Some ys) (drop n cs) n (sym (length-map ys Some ∙ many)) in
      let z : 0 + n ≡ n = omega arith in
      subst (λ k. let ds = map Some ys ++ drop k cs in (length ds ≡ length cs) × IsRun ds 0 n × (somes (take n ds) ≡ ys)) (sym z)
      (omega (arith, long, length-map ys Some, many, length-drop n cs, le), (omega (arith, long, length-map ys Some, many), (ys, got)), ap somes got ∙ somes-map ys)

  -- fewer count
  pub shrunk : (m : ℕ) → m ≤ n → IsRun cs 0 m × (somes (take m cs) ≡ take m xs)
  shrunk m le =
      let low = run.0 in let got : take m cs ≡ map Some (take m xs) = sym (take_less m n cs le) ∙ (ap (take m) whole ∙ take-map Some m xs) in
      ((omega (arith, low, le), (take m xs, got)), ap somes got ∙ somes-map (take m xs))

module _ (cs : List (Option ℕ)) (n : ℕ) (run : IsRun cs 0 n) where
  -- more count, and hold 0
  pub grown : (m : ℕ) → n ≤ m → m ≤ length cs → let ds = cleared n m cs in
      (length ds ≡ length cs) × IsRun ds 0 m × (somes (take m ds) ≡ xs cs n run ++ replicate (m - n) 0)
  grown m le high =
      let bs = xs cs n run in let zs : List ℕ = replicate (m - n) 0 in let ys = bs ++ zs in let rest = drop m cs in
      let many : length ys ≡ m = omega (arith, length-append bs zs, count cs n run, length-replicate {A = ℕ} (m - n) 0, le) in
      let is : cleared n m cs ≡ map Some ys ++ rest = ap (λ l. l ++ (replicate (m - n) (Some 0) ++ rest)) (whole cs n run)
      ∙ (ap (λ l. map Some bs ++ (l ++ rest)) (sym (map-replicate (m - n) 0))
      ∙ (sym (append_assoc (map Some bs) (map Some zs) rest) ∙ ap (λ l. l ++ rest) (sym (map-append Some bs zs)))) in
      let long : length (cleared n m cs) ≡ length cs = ap length is ∙ omega (arith, length-append (map Some ys) rest, length-map ys Some, many, length-drop m cs, high) in
      let got : take m (cleared n m cs) ≡ map Some ys = ap (take m) is ∙ front (map Some ys) rest m (sym (length-map ys Some ∙ many)) in
      (long, (omega (arith, long, high), (ys, got)), ap somes got ∙ somes-map ys)

  -- what the bytes are then
  pub with_more : (m : ℕ) → n ≤ m → m ≤ length cs → somes (take m (cleared n m cs)) ≡ take m (xs cs n run) ++ replicate (m - length (xs cs n run)) 0
  with_more m le high =
      let bs = xs cs n run in let long = count cs n run in
      (grown m le high).2 ∙ (ap (λ l. l ++ replicate (m - n) 0) (sym (take_all m bs (omega (arith, long, le)))) ∙ ap (λ k. take m bs ++ replicate (m - k) 0) (sym long))

  pub with_fewer : (m : ℕ) → m ≤ n → somes (take m cs) ≡ take m (xs cs n run) ++ replicate (m - length (xs cs n run)) 0
  with_fewer m le =
      let bs = xs cs n run in let long = count cs n run in let none : m - length bs ≡ 0 = omega (arith, long, le) in
      (shrunk cs n run m le).1 ∙ (sym (append-nil (take m bs)) ∙ ap (λ k. take m bs ++ replicate k 0) (sym none))

-- nothing is cleared yet
pub cleared_none : (n : ℕ) (cs : List (Option ℕ)) → cleared n n cs ≡ cs
cleared_none n cs = let none : n - n ≡ 0 = omega arith in ap (λ k. take n cs ++ (replicate k (Some 0) ++ drop n cs)) none ∙ take-append-drop n cs

zeros_more : (i : ℕ) (cs : List (Option ℕ)) → i < length cs → set (replicate i (Some 0) ++ drop i cs) i (Some 0) ≡ replicate (suc i) (Some 0) ++ drop (suc i) cs
zeros_more i [] lt = absurd (omega arith)
zeros_more zero (c ∷ cs) lt = refl
zeros_more (suc i) (c ∷ cs) lt = ap (λ l. Some 0 ∷ l) (zeros_more i cs (omega arith))

-- one place more
pub cleared_more : (n i : ℕ) (cs : List (Option ℕ)) → n ≤ i → i < length cs → set (cleared n i cs) i (Some 0) ≡ cleared n (suc i) cs
cleared_more n i [] le lt = absurd (omega arith)
cleared_more zero i (c ∷ cs) le lt =
    let z : i - 0 ≡ i = omega arith in let z' : suc i - 0 ≡ suc i = omega arith in
    ap (λ k. set (replicate k (Some 0) ++ drop i (c ∷ cs)) i (Some 0)) z ∙ (zeros_more i (c ∷ cs) lt ∙ sym (ap (λ k. replicate k (Some 0) ++ drop (suc i) (c ∷ cs)) z'))
cleared_more (suc n) zero (c ∷ cs) le lt = absurd (omega arith)
cleared_more (suc n) (suc i) (c ∷ cs) le lt =
    let z : suc i - suc n ≡ i - n = omega arith in let z' : suc (suc i) - suc n ≡ suc i - n = omega arith in
    ap (λ k. c ∷ set (take n cs ++ (replicate k (Some 0) ++ drop i cs)) i (Some 0)) z
    ∙ (ap (λ l. c ∷ l) (cleared_more n i cs (omega arith) (omega arith)) ∙ sym (ap (λ k. c ∷ (take n cs ++ (replicate k (Some 0) ++ drop (suc i) cs))) z'))

pub cleared_long : (n m : ℕ) (cs : List (Option ℕ)) → n ≤ m → m ≤ length cs → length (cleared n m cs) ≡ length cs
cleared_long n m cs le high =
    let zs : List (Option ℕ) = replicate (m - n) (Some 0) in
    omega (arith, length-append (take n cs) (zs ++ drop m cs), length-append zs (drop m cs), length-take n cs, length-drop m cs, length-replicate {A = Option ℕ} (m - n) (Some 0), le, high)
