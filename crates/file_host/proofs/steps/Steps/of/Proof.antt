-- A walk over `Steps::of`: it makes a struct of no bytes, and sets its ghost field to what the history tells.
use Rattle.std.proofs.Common.{[], ◌∷◌, refl}
use Rattle.std.proofs.raw_atomic.Walks.{proved}
use base.Fml.{ftrue, flft}
use mir.Val.{vstruct, vnil}
use contract.Lifetimes.{Lfts}
use types.Kit.{‵, ◌⊛◌, ◌$◌, ◌∵◌, !, qed, done, move, keep, drop, split, join, fjoin, suffices}
use types.Run.{enter, returns, no_more}
use types.Part.{agg}
use types.ByLocal.{alloc_all, pass_all, free_all, look_at, sets}
use denote.Builtin.{RefOf}
use denote.Exit.{yes}
use denote.Ref.{shr_vals, shr_Tells}
use denote.Laws.{Is}
use denote.RattleType.{RattleType}
use denote.Signature.{Slot, plain, named_lft, name_of, meet_at}
use denote.Steps.{nothing, owned}
use denote.Struct.Laws.{makes}
use denote.Triple.Walked.{Stays, walk_of, says, stay_dropped, Goes-dropped, ends_at}
use Rattle.file_host.specs.Answers.{steps_in}
use Rattle.file_host.specs.contracts.steps.History.{the_row as history_row}
use Rattle.file_host.specs.contracts.steps.Steps.of as f
use Rattle.file_host.specs.declared.steps.Steps.{Steps}
use Rattle.file_host.specs.contracts.steps.Steps.TheFields as fields
use Rattle.file_host.proofs.steps.Steps.TheFields.TheLaws as laws
use Rattle.file_host.proofs.steps.Steps.of.Statement.{statement}
use Rattle.file_host.proofs.steps.Steps.of.Code as code

-- the type of the history that the parameter points to
abbrev history : Lfts 2 → RattleType
history κs = history_row (named_lft 2 1 tt κs)

-- the type of the parameter
abbrev param : Slot 2
param = RefOf {n = 2} (0 ∷ []) tt (plain history) (λ κs. tt)

-- nothing is wanted of the parameter at the return
abbrev stayed : Stays f.ended.signature.params f.ended.kept
stayed = (stay_dropped param yes, tt)

pub of_spec : {M : Type 1} → statement M
of_spec 𝓤 𝓛 𝓜 𝓡 wired =
    let c = f.clauses 𝓛 𝓜.mem 𝓡.returns in let W = walk_of 𝓛 f.ended stayed c in
    proved 𝓛 f.ended stayed c 𝓜 𝓡 (Goes-dropped 𝓛 2 param yes (λ κs x w. refl), tt)
    f.Key.name code.function (code.unfolded 𝓤 𝓛.H 𝓜 𝓡 wired)
    (λ κs. (shr_vals, tt)) (λ κs. (shr_Tells (name_of (0 ∷ [])) (meet_at 2 (0 ∷ []) tt κs) (history κs), tt)) (λ κs qs bounds a _ are.
    let vs = shr_vals a.0 in
    let y : W.Ghost = ((κs, qs, bounds, a, (vs, tt)), tt) in
    let r : Steps = record { past = steps_in a.0.now } in
    qed 𝓛 (((‵ (flft κs.0 qs.0) ⊛ (‵ (flft κs.1.0 qs.1.0) ⊛ ‵ ftrue)) ⊛ ‵ ((param.row κs).own_val a.0 vs) ⊛ ‵ ftrue) ∷ ‵ ftrue ∷ []) ∵
    -- [the tokens; nothing]
    split ! $ move ! (1 ∷ []) $ drop ! $
    -- the body: the struct of no fields
    enter ! _ _ _ _ _ $ alloc_all ! (λ l. pass_all ! refl ((tt, tt), tt) $
    sets ! (agg ! (no_more !)) refl (tt, tt) $
    returns ! (look_at ! 0 refl) $ free_all ! refl $
    suffices ! _ (ends_at 𝓛 f.ended stayed c y (vstruct vnil) r (tt, tt) (tt, tt)) $ says ! refl $
    -- what the result owns, which is nothing
    owned ! fields.the_row (Is fields.the_row) (makes fields.the_type laws.the_plain 𝓛) (record {}) (vstruct vnil ∷ []) (tt, (refl, tt)) $
    nothing ! $ move ! (1 ∷ 0 ∷ []) $ fjoin ! $ nothing ! $ nothing ! $ join ! $ keep ! (2 ∷ 0 ∷ 1 ∷ []) $ done !))
