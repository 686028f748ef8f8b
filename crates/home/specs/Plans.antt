-- What a home does with a request, by how its directory stands.
use Rattle.std.specs.Prelude.{ℕ, false, if◌then◌else◌, Some, None, Option}
use Rattle.message.specs.declared.kind.Kind.{Kind}
use Rattle.message.specs.declared.kind.Kind.TheVariants.{Gets, Getx, Upg, Wb, Rblk, Wblk}
use Rattle.home.specs.Sets.{nobody, has, with_member}
use Rattle.home.specs.declared.directory.View.{View}
use Rattle.home.specs.declared.directory.View.TheVariants.{Idle, Shared, Exclusive, Busy}
use Rattle.home.specs.declared.plan.Plan.{Plan}
use Rattle.home.specs.declared.plan.Plan.TheVariants.{Refuse, Ask}
use Rattle.home.specs.Sets.{Processors}

abbrev pub refuse : Option Plan
refuse = Some Refuse

abbrev pub ask : Processors → Option Plan
ask h = Some (Ask h)

-- Finish with nobody asked.
abbrev pub at_once : Option Plan
at_once = ask nobody

-- All but the requester.
abbrev pub ask_others : Processors → ℕ → Option Plan
ask_others h p = ask (with_member h p false)

-- A holder that asks for a copy has no rule.
abbrev pub newcomer : Processors → ℕ → Option Plan → Option Plan
newcomer h p plan = if has h p then None else plan

-- Whoever betters its copy or gives it back has to hold one.
abbrev pub holder : Processors → ℕ → Option Plan → Option Plan
holder h p plan = if has h p then plan else refuse

-- The columns of the table; a busy home refuses every request.
abbrev pub column : View → Option Plan → Option Plan → Option Plan → Option Plan
column Idle i s x = i
column Shared i s x = s
column Exclusive i s x = x
column Busy i s x = refuse

-- Rows are requests, columns an idle, a shared and an exclusive home. h are the holders, of an exclusive home its owner
-- alone; p is the requester. GETS and Rblk ask by DOWN, the others by INV, and what follows is the request's reply.
abbrev pub plan : Kind → View → Processors → ℕ → Option Plan
plan Gets v h p = column v (newcomer h p at_once) (newcomer h p at_once) (newcomer h p (ask h))
plan Getx v h p = column v (newcomer h p at_once) (newcomer h p (ask h)) (newcomer h p (ask h))
plan Upg v h p = column v refuse (holder h p (ask_others h p)) refuse
plan Wb v h p = column v refuse refuse (holder h p (ask h))
plan Rblk v h p = column v at_once at_once (ask h)
plan Wblk v h p = column v at_once (ask h) (ask h)
plan _ v h p = None
