-- A worked exchange: processor 0 takes a block, writes 7 and gives it up to processor 1.
use Rattle.std.specs.Prelude.{◌≡◌, ℕ, Bool, true, false, List, [], ◌∷◌, ◌++◌, Some, None, Option}
use Rattle.message.specs.Messages.{plain}
use Rattle.message.specs.Reactions.{sent}
use Rattle.message.specs.declared.kind.Kind.{Kind}
use Rattle.message.specs.declared.kind.Kind.TheVariants.{Gets, Getx, Ack, Down, SData, XData, Nack, Taken}
use Rattle.message.specs.declared.message.Message.{Message}
use Rattle.ordering.specs.Words.{no_words, one_word}
use Rattle.ordering.specs.declared.operation.Words.{Words}
use Rattle.home.specs.Homes.{new_home}
use Rattle.home.specs.Reactions.{received}
use Rattle.home.specs.declared.machine.Home.{Home}

-- What a home sends, message after message; what has no rule is left out.
abbrev pub exchange : Home ℕ → ℕ → List (Message ℕ) → List (Message ℕ)
exchange h b [] = []
exchange h b (m ∷ ms) = elim (received h b m) [ None ↦ exchange h b ms | Some x ↦ sent x.sent ++ exchange x.next b ms ]

abbrev pub with_words : Kind → ℕ → ℕ → Words → ℕ → Bool → Option Kind → Message ℕ
with_words k s r w c mark refused =
    record (plain k s r 0) { words = w; clock = c; exclusive = mark; refused = refused }

abbrev pub WorkedExchange : Type 0
WorkedExchange =
    exchange (new_home 0 no_words) 0
    (plain Getx 0 16 0
    ∷ (plain Gets 1 16 0
    ∷ (plain Taken 1 16 0
    ∷ (plain Taken 0 16 0
    ∷ (plain Gets 1 16 0
    ∷ (with_words Ack 0 16 (one_word 7) 3 true None
    ∷ []))))))
    ≡ (with_words XData 16 0 no_words 1 false None
    ∷ (with_words Nack 16 1 no_words 0 false (Some Gets)
    ∷ (plain Down 16 0 0
    ∷ (with_words SData 16 1 (one_word 7) 4 false None
    ∷ []))))
