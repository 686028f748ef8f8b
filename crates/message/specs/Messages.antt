-- Messages with the fields that most rules leave at 0.
use Rattle.std.specs.Prelude.{ℕ, false, [], None}
use Rattle.ordering.specs.Words.{no_words}
use Rattle.message.specs.declared.kind.Kind.{Kind}
use Rattle.message.specs.declared.kind.Kind.TheVariants.{Gets}
use Rattle.message.specs.declared.message.Message.{Message}

abbrev pub plain : Kind → ℕ → ℕ → ℕ → Message ℕ
plain k s r p = record {
  kind = k;
  sender = s;
  receiver = r;
  place = p;
  words = no_words;
  clock = 0;
  sequence = 0;
  exclusive = false;
  refused = None;
}

-- What is read past the end of a list of messages.
abbrev pub no_message : Message ℕ
no_message = record (plain Gets 0 0 0) { words = record { at = [] } }
