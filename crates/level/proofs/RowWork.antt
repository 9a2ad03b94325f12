-- A request of a level's row is what is said of a swap.
use Rattle.std.proofs.Common.{◌≡◌, ℕ, ◌/◌, ◌%◌, ◌^◌, ◌++◌, true, List, [], ◌∷◌, get_or, Some, None, Option, refl, ap, ◌∙◌, arith}
use Rattle.std.proofs.lemmas.Bool.{cond-true}
use Rattle.tree.specs.declared.block.Block.{Block}
use Rattle.tree.specs.Paths.{is_depth}
use Rattle.steps.specs.Steps.{Row, fetched, found, second_half}
use Rattle.tree.specs.Entries.{request_entries}
use Rattle.store.specs.declared.interface.BucketStore.{Ghosts as StoreMeaning}
use Rattle.row.specs.declared.requests.Ask.{Ask}
use Rattle.row.specs.declared.row.Row.{Row as StoredRow}
use Rattle.row.specs.Requests.{ArrivesAs, Requested, shown_leaf, words_found}
use Rattle.row.specs.Rows.{row_in}
use Rattle.level.specs.Levels.{RowSwapped, page_with, page_words}

-- where there are words, a block arrives
record Arrived (n leaf : ℕ) (words : List ℕ) (a : Option Block) : Type 0 where
  pub page : Block
  pub is : a ≡ Some page
  pub number : page.number.0 ≡ n
  pub leaf_is : page.leaf.0 ≡ leaf
  pub words_are : page.words ≡ words

arrived : (n leaf : ℕ) (words : List ℕ) (put : Option (List ℕ)) (a : Option Block) → ArrivesAs n leaf put a → put ≡ Some words
    → Arrived n leaf words a
arrived n leaf words None a h e = absurd (let z : ◌≡◌ {A = ℕ} 0 1 = cc in let n : ⊥ = omega arith in n)
arrived n leaf words (Some x) None h e = absurd h
arrived n leaf words (Some x) (Some b) h e =
    let same : x ≡ words = cc in
    record { page = b; is = refl; number = h.0; leaf_is = h.1; words_are = h.2 ∙ same }

pub record SwappedRow (D : ℕ) (before after : Row) (log log' : List ℕ) (i new shown : ℕ) (coins : List ℕ) (words : Option (List ℕ)) : Type 0 where
  pub finds : words ≡ words_found (found D (i / 8) (shown % 2 ^ D) before)
  pub row : RowSwapped D before after log log' i new shown coins

-- a request of the row in which a page arrives: the coins are the new leaf and the two flush leaves
pub swapped_row : {S : Type 0} (store : StoreMeaning S) (before after : StoredRow S) (ask : Ask) (i new : ℕ) (coins : List ℕ)
    (words : Option (List ℕ)) → ask.number.0 ≡ i / 8 → is_depth before.depth ≡ true → ask.new.0 ≡ get_or coins 0 0
    → ask.first.0 ≡ get_or coins 1 0 → ask.second.0 ≡ get_or coins 2 0
    → Requested store before after ask (λ ws. Some (page_with (page_words ws) i new)) words
    → store.log after.store ≡ store.log before.store ++ request_entries before.depth (shown_leaf before ask) (ask.first.0 ∷ ask.second.0 ∷ [])
    → SwappedRow before.depth (row_in store before) (row_in store after) (store.log before.store) (store.log after.store) i new ask.shown.0 coins words
swapped_row store before after ask i new coins words ei depth e0 e1 e2 q entries =
    let D = before.depth in
    let along : shown_leaf before ask ≡ ask.shown.0 % 2 ^ D = cond-true _ _ _ depth in
    let a = arrived ask.number.0 ask.new.0 (page_with (page_words words) i new) _ q.arrives q.arrives_as refl in
    let fetches : ℕ → ℕ → Row = λ n m. fetched D n m (row_in store before) in
    let finds = q.finds_words ∙ (ap (λ n. words_found (found D n (shown_leaf before ask) (row_in store before))) ei
    ∙ ap (λ m. words_found (found D (i / 8) m (row_in store before))) along) in
    record {
      finds = finds;
      row = record {
        page = a.page;
        number = a.number ∙ ei;
        leaf = a.leaf_is ∙ e0;
        words = a.words_are ∙ ap (λ ws. page_with (page_words ws) i new) finds;
        row =
            q.row
            ∙ (ap (λ b. second_half D b (ask.first.0 ∷ ask.second.0 ∷ []) (fetches ask.number.0 (shown_leaf before ask))) a.is
            ∙ (ap (λ n. second_half D (Some a.page) (ask.first.0 ∷ ask.second.0 ∷ []) (fetches n (shown_leaf before ask))) ei
            ∙ (ap (λ m. second_half D (Some a.page) (ask.first.0 ∷ ask.second.0 ∷ []) (fetches (i / 8) m)) along
            ∙ (ap (λ k. second_half D (Some a.page) (k ∷ ask.second.0 ∷ []) (fetches (i / 8) (ask.shown.0 % 2 ^ D))) e1
            ∙ ap (λ k. second_half D (Some a.page) (get_or coins 1 0 ∷ k ∷ []) (fetches (i / 8) (ask.shown.0 % 2 ^ D))) e2))));
        entries =
            entries
            ∙ (ap (λ m. store.log before.store ++ request_entries D m (ask.first.0 ∷ ask.second.0 ∷ [])) along
            ∙ (ap (λ k. store.log before.store ++ request_entries D (ask.shown.0 % 2 ^ D) (k ∷ ask.second.0 ∷ [])) e1
            ∙ ap (λ k. store.log before.store ++ request_entries D (ask.shown.0 % 2 ^ D) (get_or coins 1 0 ∷ k ∷ [])) e2));
      };
    }
