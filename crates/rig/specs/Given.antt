-- What tests begin with.
use Rattle.std.specs.Prelude.{◌≡◌, ℕ, ◌*◌, [], replicate}
use Rattle.store.specs.Tables.{table_entries, table_log, table_words}
use Rattle.store.specs.declared.table.TableStore.{TableStore}

-- a table store of so many buckets of zeros, with so many words for its log, which is empty
pub record IsBlank (buckets span : ℕ) (s : TableStore) : Type 0 where
  pub words : table_words s ≡ replicate (buckets * 40) 0
  pub entries : table_entries s ≡ replicate span 0
  pub empty : table_log s ≡ []
