-- What is owed of `push_end`.
use Rattle.std.proofs.Common.{◌≡◌, ◌++◌, ◌∙◌, refl, ap, ap₂, option_map, Option, List}
use Rattle.ccbor.specs.Item.{Item, bytes, uint}
use Rattle.ctap_encoding.specs.Building.{member_list}
use Rattle.ctap_open_requests.proofs.writing.push_end.Goals as goal

-- a member is pushed onto what is known
then : (s t u : List (Item × Item)) (k : Item) (o p : Option Item) → u ≡ t ++ member_list k o → t ≡ s → o ≡ p → u ≡ s ++ member_list k p
then s t u k o p pushed same is = pushed ∙ ap₂ (λ s o. s ++ member_list k o) same is

pub returns : goal.returns
returns c =
    then _ _ _ _ _ _ c.in_ok-push_if_there-3.ensures (
    then _ _ _ _ _ _ c.in_ok-push_if_there-2.ensures (
    then _ _ _ _ _ _ c.in_ok-push_if_there.ensures refl c.in_ok-options.ensures)
    (c.in_ok-param.ensures ∙ ap (option_map bytes) c.auth_members-protocol.ensures.param))
    (c.number_if_there-protocol.ensures ∙ ap (option_map uint) c.auth_members-protocol.ensures.protocol)
