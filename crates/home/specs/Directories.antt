-- The directory of a block: how it stands to a request, and how it changes.
use Rattle.std.specs.Prelude.{ℕ, max, Bool, true, false, if◌then◌else◌}
use Rattle.home.specs.Requests.{no_request, asks_down, gives_copy, gives_ownership}
use Rattle.home.specs.Sets.{nobody, has, with_member, is_empty}
use Rattle.home.specs.declared.directory.Directory.{Directory}
use Rattle.home.specs.declared.directory.Phase.TheVariants.{Free, Gathering, Replied}
use Rattle.home.specs.declared.directory.Round.{Round}
use Rattle.home.specs.declared.request.Request.{Request}
use Rattle.home.specs.declared.directory.View.{View}
use Rattle.home.specs.declared.directory.View.TheVariants.{Idle, Shared, Exclusive, Busy}
use Rattle.home.specs.Sets.{Processors}

-- Some holders are asked for a request: nothing is known of them yet.
abbrev pub begun : Request → Processors → Round
begun r asked = record { request = r; awaited = asked; latest = 0 }

-- What is under way: once the reply is sent nobody is awaited, and of a free home's request nothing is kept.
abbrev pub round_of : Directory → Round
round_of d = elim d.phase [ Free ↦ begun no_request nobody | Gathering g ↦ g | Replied r ↦ begun r nobody ]

abbrev pub view : Directory → View
view d =
    elim d.phase [
      | Free ↦ if is_empty d.holders then Idle else if d.exclusive then Exclusive else Shared
      | _ ↦ Busy
    ]

-- A request is taken, and some holders are asked.
abbrev pub asking : Directory → Request → Processors → Directory
asking d r asked = record d { phase = Gathering (begun r asked) }

-- An acknowledgement is awaited from a processor asked and not yet heard.
abbrev pub awaits : Directory → ℕ → Bool
awaits d p = elim d.phase [ Gathering g ↦ has g.awaited p | _ ↦ false ]

-- Processor p is heard, with its clock c.
abbrev pub heard_round : Round → ℕ → ℕ → Round
heard_round g p c = record g { awaited = with_member g.awaited p false; latest = max g.latest c }

-- It holds no copy now, or after DOWN a shared one; g is what is under way then.
abbrev pub heard : Directory → Round → ℕ → Directory
heard d g p = record {
  holders = if asks_down g.request.kind then d.holders else with_member d.holders p false;
  exclusive = false;
  phase = Gathering g;
}

-- The reply is sent: the requester holds what it was given.
abbrev pub replied : Directory → Request → Directory
replied d r = record {
  holders = if gives_copy r.kind then with_member d.holders r.requester true else d.holders;
  exclusive = if gives_ownership r.kind then true else d.exclusive;
  phase = Replied r;
}

-- The reply is taken.
abbrev pub freed : Directory → Directory
freed d = record d { phase = Free }
