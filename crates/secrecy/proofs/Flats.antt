-- Logs copied out one behind the other.
use Rattle.std.proofs.Common.{◌≡◌, ℕ, ◌+◌, ◌<◌, ◌≤◌, List, [], ◌∷◌, ◌++◌, map, length, get_or, take, sym, refl, ap, ◌∙◌, arith}
use Rattle.std.proofs.lemmas.Grind.{flat_map-append}
use Rattle.std.proofs.lemmas.List.{append_assoc, append-nil, get_or-map, length-map, take_all, take_more}
use Rattle.posmap.specs.Maps.{MapRow, no_row, row_at}
use Rattle.secrecy.specs.Seen.{flat, flat_log}

-- one entry more of a log
pub log_more : (log base xs ys : List ℕ) (k y : ℕ) → xs ≡ base ++ take k log → k < length log → y ≡ get_or log k 0 → ys ≡ xs ++ y ∷ []
    → ys ≡ base ++ take (k + 1) log
log_more log base xs ys k y e l f h =
    h ∙ (ap (λ x. x ++ y ∷ []) e
    ∙ (append_assoc base (take k log) (y ∷ []) ∙ ap (λ x. base ++ x) (ap (λ z. take k log ++ z ∷ []) f ∙ sym (take_more log k 0 l))))

-- the whole log behind its length
pub log_all : (log base out xs : List ℕ) (k used : ℕ) → xs ≡ base ++ take k log → length log ≤ k → base ≡ out ++ used ∷ [] → used ≡ length log
    → xs ≡ out ++ flat_log log
log_all log base out xs k used e l f u =
    e ∙ (ap (λ x. base ++ x) (take_all k log l)
    ∙ (ap (λ x. x ++ log) f ∙ (append_assoc out (used ∷ []) log ∙ ap (λ n. out ++ n ∷ log) u)))

-- one log more
pub flat_more : (rows : List MapRow) (r : ℕ) (xs ys : List ℕ) → xs ≡ flat (take r (map (λ row. row.log) rows)) → r < length rows
    → ys ≡ xs ++ flat_log (row_at rows r).log → ys ≡ flat (take (r + 1) (map (λ row. row.log) rows))
flat_more rows r xs ys e l h =
    let logs = map (λ row. row.log) rows in
    let long = length-map rows (λ row. row.log) in
    let l' : r < length logs = omega arith in
    let log = (row_at rows r).log in
    h ∙ (ap (λ x. x ++ flat_log log) e
    ∙ (ap (λ x. flat (take r logs) ++ x) (sym (append-nil (flat_log log)))
    ∙ (sym (flat_map-append flat_log (take r logs) (log ∷ []))
    ∙ ap flat (ap (λ x. take r logs ++ x ∷ []) (sym (get_or-map (λ row. row.log) rows r no_row [] l)) ∙ sym (take_more logs r [] l')))))

-- all logs
pub flat-all : (rows : List MapRow) (r : ℕ) (xs : List ℕ) → xs ≡ flat (take r (map (λ row. row.log) rows)) → length rows ≤ r
    → xs ≡ flat (map (λ row. row.log) rows)
flat-all rows r xs e l =
    let long = length-map rows (λ row. row.log) in
    let l' : length (map (λ row. row.log) rows) ≤ r = omega arith in
    e ∙ ap flat (take_all r (map (λ row. row.log) rows) l')

-- the flat list tells the logs
same_front : (xs ys us vs : List ℕ) → length xs ≡ length ys → xs ++ us ≡ ys ++ vs → (xs ≡ ys) × (us ≡ vs)
same_front [] [] us vs l e = (refl, e)
same_front [] (y ∷ ys) us vs l e = absurd (let n : ⊥ = omega arith in n)
same_front (x ∷ xs) [] us vs l e = absurd (let n : ⊥ = omega arith in n)
same_front (x ∷ xs) (y ∷ ys) us vs l e =
    let p : x ≡ y = cc in
    let q : xs ++ us ≡ ys ++ vs = cc in
    let r = same_front xs ys us vs (omega arith) q in
    (ap (λ z. z ∷ xs) p ∙ ap (λ zs. y ∷ zs) r.0, r.1)

pub flat_tells : (xs ys : List (List ℕ)) → flat xs ≡ flat ys → xs ≡ ys
flat_tells [] [] e = refl
flat_tells [] (y ∷ ys) e = absurd (let z : ◌≡◌ {A = ℕ} 0 1 = cc in let n : ⊥ = omega arith in n)
flat_tells (x ∷ xs) [] e = absurd (let z : ◌≡◌ {A = ℕ} 0 1 = cc in let n : ⊥ = omega arith in n)
flat_tells (x ∷ xs) (y ∷ ys) e =
    let l : length x ≡ length y = cc in
    let q : x ++ flat xs ≡ y ++ flat ys = cc in
    let r = same_front x y (flat xs) (flat ys) l q in
    ap (λ z. z ∷ xs) r.0 ∙ ap (λ zs. y ∷ zs) (flat_tells xs ys r.1)
