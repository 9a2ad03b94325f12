-- What is printed for a line.
use Rattle.std.specs.Prelude.{◌≡◌, ℕ, List, ◌++◌, codes}
use Rattle.quote.specs.Messages.{message}
use Rattle.quote.specs.Quotes.{quote}
use Rattle.quote.specs.declared.depths.BadLine.TheVariants.{NoMemory}
use Rattle.quote.specs.declared.reply.Reply.{Reply}
use Rattle.quote.specs.declared.reply.Reply.TheVariants.{Quote, NoQuote}

-- the quote, or the message as one line
abbrev pub reply_text : Reply → List ℕ
reply_text (Quote depths) = quote depths.rows.items
reply_text (NoQuote bad) = message bad ++ codes "\n"

-- want of memory is never printed
abbrev pub NotOfMemory : Reply → Type 0
NotOfMemory (Quote depths) = Unit {0}
NotOfMemory (NoQuote bad) = bad ≡ NoMemory → ⊥
