-- What all steps share: rows, and the buckets of a path, read and written.
use Rattle.std.proofs.Common.{◌≡◌, ℕ, suc, ◌+◌, ◌-◌, ◌^◌, ◌<◌, ◌≤◌, true, ltb, List, [], length, sym, ap, ◌∙◌, arith, pow_mono}
use Rattle.std.proofs.lemmas.List.{get_or-map, map-set}
use Rattle.std.proofs.lemmas.Bool.{and_parts, ltb-true}
use Rattle.steps.specs.Steps.{Buckets, Row, bucket, with_bucket}
use Rattle.store.specs.Stores.{bucket_of, replaced}
use Rattle.tree.specs.declared.block.Block.{Block}
use Rattle.tree.specs.declared.place.Place.{Place}
use Rattle.tree.specs.Paths.{is_depth, is_leaf, path}
use Rattle.tree.specs.Places.{places_of}
use Rattle.tree.proofs.PathLaws.{path_high}
use Rattle.row.specs.Rows.{decoded}
use Rattle.row.specs.Trials.{tree_buckets}

-- equal buckets and equal queues make equal rows
pub same_row : {b c : Buckets} {q r : List Block} → b ≡ c → q ≡ r
    → ◌≡◌ {A = Row} (record { buckets = b; queue = q }) (record { buckets = c; queue = r })
same_row {b} {c} {q} {r} e f =
    ap (λ (x : Buckets). record { buckets = x; queue = q }) e ∙ ap (λ (x : List Block). record { buckets = c; queue = x }) f

-- a leaf of a tree is below 2 ^ D
pub leaf_below : (D m : ℕ) → is_leaf D m ≡ true → m < 2 ^ D
leaf_below D m h = ltb-true m (2 ^ D) (and_parts (is_depth D) (ltb m (2 ^ D)) h).1

-- a store with enough buckets has each bucket of the path
pub path_there : (D m d count : ℕ) → is_leaf D m ≡ true → d ≤ D → tree_buckets D ≤ count → path D m d ≤ count
path_there D m d count h k fits =
    let high = path_high D m d (leaf_below D m h) k in
    let wide : 2 ^ suc d ≤ 2 ^ (D + 1) = pow_mono (omega arith) in
    omega arith

-- the places of a bucket that was read
pub read_places : (bs : List (List ℕ)) (n : ℕ) {ws : List ℕ} {ps : List Place} → 1 ≤ n → n ≤ length bs → ws ≡ bucket_of bs n
    → ps ≡ places_of ws → ps ≡ bucket (decoded bs) n
read_places bs n low high e f =
    let lt : n - 1 < length bs = omega arith in
    f ∙ (ap places_of e ∙ sym (get_or-map places_of bs (n - 1) [] [] lt))

-- the buckets after one was written
pub written : (bs : List (List ℕ)) (n : ℕ) (ws : List ℕ) {cs : List (List ℕ)} {ps : List Place} → cs ≡ replaced bs n ws
    → places_of ws ≡ ps → decoded cs ≡ with_bucket (decoded bs) n ps
written bs n ws e f = ap decoded e ∙ (map-set places_of bs (n - 1) ws ∙ ap (with_bucket (decoded bs) n) f)
