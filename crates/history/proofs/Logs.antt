-- The prescribed logs of two histories side by side, and how long a log is.
use Rattle.std.proofs.Common.{◌≡◌, ℕ, zero, suc, ◌+◌, ◌*◌, ◌<◌, Bool, true, false, ltb, List, [], ◌∷◌, ◌++◌, length, get_or, drop, sym, refl, ap, ◌∙◌, ap₂, arith}
use Rattle.std.proofs.lemmas.List.{drop-map, length-append}
use Rattle.std.proofs.lemmas.Bool.{cond-true, lt-ltb, and_from}
use Rattle.tree.specs.Entries.{request_entries, drain_entries, request_moves, drain_moves}
use Rattle.tree.proofs.Counts.{entry_counts}
use Rattle.history.specs.Histories.{History, Sort, opens, asks, drains, tears, sort, named, Deed, rest, request, drain, tear_off, deed_of, deeds, opened, asked, coins_of, calls_of, accepted_in, AllCan, InTime, request_share, flush_leaves, drain_leaf, numbers_in, leaves_in, latest, row_number, shown_in, log_of, prescribed_log, moves_since}
use Rattle.history.specs.Secrecy.{Alike, requested_in, all_below, replaced, row_given, with_leaves, LogsAreEqual, Counted}
use Rattle.history.proofs.Rows.{shows, same_shows}
use Rattle.history.proofs.Coins.{Paired, begun, both_rest, both_open, both_ask, both_drain, both_tear, with_other, moved, moved_column, row_of}
use Rattle.history.proofs.Pairs.{paired}

flush_stay : (leaf : ℕ → ℕ) (r : ℕ) (c : List ℕ) → flush_leaves r c ≡ flush_leaves r (with_leaves leaf 0 c)
flush_stay leaf r c =
    ap₂ (λ (a b : ℕ). a ∷ b ∷ [])
    (sym (with_other leaf 0 c (request_share * r + 1) (λ e. omega arith)))
    (sym (with_other leaf 0 c (request_share * r + 2) (λ e. omega arith)))

-- where the shown leaves are the same, so are the logs
logs : (R r D : ℕ) {k : ℕ} {ds es : List Deed} {cs : List (List ℕ)} → Paired R k ds es cs → (L : ℕ → List ℕ)
    → ((j : ℕ) → shows (numbers_in r (asked ds)) (leaves_in r cs) j ≡ shows (numbers_in r (asked es)) (leaves_in r (replaced L (asked es) cs)) j)
    → (j : ℕ) → log_of D r (drop j ds) (drop j cs) ≡ log_of D r (drop j es) (drop j (replaced L (asked es) cs))
logs R r D begun L h zero = refl
logs R r D begun L h (suc j) = refl
logs R r D (both_rest c w) L h zero = logs R r D w (λ i. drop 1 (L i)) (λ i. h (suc i)) zero
logs R r D (both_rest c w) L h (suc j) = logs R r D w (λ i. drop 1 (L i)) (λ i. h (suc i)) j
logs R r D (both_open c l w) L h zero =
    ap₂ ◌++◌ (logs R r D w (λ i. drop 1 (L i)) (λ i. h (suc i)) zero)
    (ap₂ (request_entries D) (h zero) (flush_stay (λ i. get_or (L i) 0 0) r c))
logs R r D (both_open c l w) L h (suc j) = logs R r D w (λ i. drop 1 (L i)) (λ i. h (suc i)) j
logs R r D (both_ask m n c p q l w) L h zero =
    ap₂ ◌++◌ (logs R r D w (λ i. drop 1 (L i)) (λ i. h (suc i)) zero)
    (ap₂ (request_entries D) (h zero) (flush_stay (λ i. get_or (L i) 0 0) r c))
logs R r D (both_ask m n c p q l w) L h (suc j) = logs R r D w (λ i. drop 1 (L i)) (λ i. h (suc i)) j
logs R r D (both_drain c w) L h zero =
    ap (λ l. l ++ drain_entries D (drain_leaf r c)) (logs R r D w (λ i. drop 1 (L i)) (λ i. h (suc i)) zero)
logs R r D (both_drain c w) L h (suc j) = logs R r D w (λ i. drop 1 (L i)) (λ i. h (suc i)) j
logs R r D (both_tear c w) L h zero = refl
logs R r D (both_tear c w) L h (suc j) = logs R r D w (λ i. drop 1 (L i)) (λ i. h (suc i)) j

pub moved_logs : (R r D : ℕ) → r < R → {k : ℕ} {ds es : List Deed} {cs : List (List ℕ)} → Paired R k ds es cs → (j : ℕ)
    → log_of D r (drop j ds) (drop j cs) ≡ log_of D r (drop j es) (drop j (moved ds es cs))
moved_logs R r D b {k} {ds} {es} {cs} w =
    logs R r D w (λ i. row_given (numbers_in i (asked ds)) (numbers_in i (asked es)) (leaves_in i cs))
    (λ j. same_shows (latest (numbers_in r (asked ds)) (leaves_in r cs)) (row_of R r w) j
    ∙ ap (λ xs. shows (numbers_in r (asked es)) xs j) (sym (moved_column R r b w)))

-- a history without its latest turns
deeds-drop : {R : Type 0} (j : ℕ) (h : History R) → deeds (drop j h) ≡ drop j (deeds h)
deeds-drop zero h = refl
deeds-drop (suc j) [] = refl
deeds-drop (suc j) (t ∷ h) = deeds-drop j h

log_drop : {R : Type 0} (D r j : ℕ) (h : History R) → prescribed_log D r (drop j h) ≡ log_of D r (drop j (deeds h)) (drop j (coins_of h))
log_drop D r j h = ap₂ (log_of D r) (deeds-drop j h) (sym (drop-map (λ t. t.coins) j h))

-- the accepted requests of a history that can be accepted are below N
all_named : {R : Type 0} (N : ℕ) (Ds : List ℕ) (h : History R) → AllCan N Ds h → all_below N (requested_in h) ≡ true
all_named N Ds [] c = refl
all_named N Ds (t ∷ h) c =
    go t.accepted (sort t.call) (named t.call) (opened h) (deeds h) (λ e. (c.0 e).0) (all_named N Ds h c.1)
  where
    go : (a : Bool) (s : Sort) (n k : ℕ) (ds : List Deed) → (a ≡ true → InTime N s n k) → all_below N (asked ds) ≡ true
        → all_below N (asked (deed_of a s n k ∷ ds)) ≡ true
    go false s n k ds i b = b
    go true opens n k ds i b = and_from (ltb k N) (all_below N (asked ds)) (lt-ltb k N (i refl)) b
    go true asks n k ds i b = and_from (ltb n N) (all_below N (asked ds)) (lt-ltb n N (i refl).1) b
    go true drains n k ds i b = b
    go true tears n k ds i b = b

pub logs_are_equal : (R : Type 0) → LogsAreEqual R
logs_are_equal R N Ds h g s can e j r D b =
    let named = all_named N Ds g can in
    let w = paired R N Ds h g s named (coins_of h) refl in
    let cs : coins_of g ≡ moved (deeds h) (deeds g) (coins_of h) = e ∙ cond-true (all_below N (requested_in g)) _ (coins_of h) named in
    log_drop D r j h
    ∙ (moved_logs (length Ds) r D b w j
    ∙ (ap (λ l. log_of D r (drop j (deeds g)) (drop j l)) (sym cs) ∙ sym (log_drop D r j g)))

-- how long a log is
log_long : (D r : ℕ) (ds : List Deed) (cs : List (List ℕ)) → length ds ≡ length cs → length (log_of D r ds cs) ≡ moves_since D ds
log_long D r [] cs h = refl
log_long D r (d ∷ ds) [] h = absurd (let z : ⊥ = omega arith in z)
log_long D r (rest ∷ ds) (c ∷ cs) h = log_long D r ds cs (omega arith)
log_long D r (request n ∷ ds) (c ∷ cs) h =
    let shown = shown_in r ds cs (row_number r n) in
    length-append (log_of D r ds cs) (request_entries D shown (flush_leaves r c))
    ∙ ap₂ ◌+◌ (log_long D r ds cs (let q : length ds ≡ length cs = omega arith in q)) (entry_counts.request D shown (flush_leaves r c) refl)
log_long D r (drain ∷ ds) (c ∷ cs) h =
    length-append (log_of D r ds cs) (drain_entries D (drain_leaf r c))
    ∙ ap₂ ◌+◌ (log_long D r ds cs (let q : length ds ≡ length cs = omega arith in q)) (entry_counts.drain D (drain_leaf r c))
log_long D r (tear_off ∷ ds) (c ∷ cs) h = refl

deeds_long : {R : Type 0} (h : History R) → length (deeds h) ≡ length (coins_of h)
deeds_long [] = refl
deeds_long (t ∷ h) = ap suc (deeds_long h)

moves_step : (D : ℕ) (a : Bool) (s : Sort) (m n k l : ℕ) (ds es : List Deed) → moves_since D ds ≡ moves_since D es
    → moves_since D (deed_of a s m k ∷ ds) ≡ moves_since D (deed_of a s n l ∷ es)
moves_step D false s m n k l ds es e = e
moves_step D true opens m n k l ds es e = ap (λ x. x + request_moves D) e
moves_step D true asks m n k l ds es e = ap (λ x. x + request_moves D) e
moves_step D true drains m n k l ds es e = ap (λ x. x + drain_moves D) e
moves_step D true tears m n k l ds es e = refl

moves_alike : {R : Type 0} (D : ℕ) (h g : History R) → Alike (calls_of h) (calls_of g) → accepted_in h ≡ accepted_in g
    → moves_since D (deeds h) ≡ moves_since D (deeds g)
moves_alike D [] [] a b = refl
moves_alike D [] (u ∷ g) a b = absurd (let z : ◌≡◌ {A = ℕ} 0 1 = cc in omega arith)
moves_alike D (t ∷ h) [] a b = absurd (let z : ◌≡◌ {A = ℕ} 0 1 = cc in omega arith)
moves_alike D (t ∷ h) (u ∷ g) a b =
    let a' : Alike (calls_of h) (calls_of g) = cc in
    let b' : accepted_in h ≡ accepted_in g = cc in
    let s : sort t.call ≡ sort u.call = cc in
    let v : t.accepted ≡ u.accepted = cc in
    moves_step D t.accepted (sort t.call) (named t.call) (named u.call) (opened h) (opened g) (deeds h) (deeds g) (moves_alike D h g a' b')
    ∙ ap₂ (λ (x : Bool) (y : Sort). moves_since D (deed_of x y (named u.call) (opened g) ∷ deeds g)) v s

pub counted : (R : Type 0) → Counted R
counted R =
    record {
      entries = λ D r h. log_long D r (deeds h) (coins_of h) (deeds_long h);
      alike = moves_alike;
    }
