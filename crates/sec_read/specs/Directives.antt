-- The directives by their names.
use Rattle.std.specs.Prelude.{ℕ, Bool, codes, find, List, [], ◌∷◌, Option, Some, if◌then◌else◌}
use Rattle.std.specs.Str.{str_eq_ignore_ascii_case}
use Rattle.sec_ast.specs.Names.{is_one_of}
use Rattle.sec_read.specs.declared.settings.Setting.TheVariants as settings
use Rattle.sec_read.specs.declared.directive.Directive.{Directive}
use Rattle.sec_read.specs.declared.directive.Directive.TheVariants as directives

-- ---- those that have an effect

abbrev pub directive_name : Directive → List ℕ
directive_name directives.SecRule = codes "SecRule"
directive_name directives.SecAction = codes "SecAction"
directive_name directives.SecMarker = codes "SecMarker"
directive_name directives.SecDefaultAction = codes "SecDefaultAction"
directive_name directives.Include = codes "Include"
directive_name directives.SecRuleRemoveById = codes "SecRuleRemoveById"
directive_name directives.SecRuleRemoveByTag = codes "SecRuleRemoveByTag"
directive_name directives.SecPatternMode = codes "SecPatternMode"
directive_name (directives.Set settings.Engine) = codes "SecRuleEngine"
directive_name (directives.Set settings.RequestBodyAccess) = codes "SecRequestBodyAccess"
directive_name (directives.Set settings.RequestBodyLimit) = codes "SecRequestBodyLimit"
directive_name (directives.Set settings.RequestBodyLimitAction) = codes "SecRequestBodyLimitAction"
directive_name (directives.Set settings.ResponseBodyAccess) = codes "SecResponseBodyAccess"
directive_name directives.Accepted = []

abbrev pub all_directives : List Directive
all_directives =
    directives.SecRule ∷
    directives.SecAction ∷
    directives.SecMarker ∷
    directives.SecDefaultAction ∷
    directives.Include ∷
    directives.SecRuleRemoveById ∷
    directives.SecRuleRemoveByTag ∷
    directives.SecPatternMode ∷
    directives.Set settings.Engine ∷
    directives.Set settings.RequestBodyAccess ∷
    directives.Set settings.RequestBodyLimit ∷
    directives.Set settings.RequestBodyLimitAction ∷
    directives.Set settings.ResponseBodyAccess ∷
    []

unfoldable pub directive_named : List ℕ → Option Directive
directive_named word = find (λ d. str_eq_ignore_ascii_case (directive_name d) word) all_directives

-- ---- those that published rule sets carry, and that have none

abbrev pub accepted : List (List ℕ)
accepted =
    codes "SecArgumentSeparator" ∷
    codes "SecArgumentsLimit" ∷
    codes "SecAuditEngine" ∷
    codes "SecAuditLog" ∷
    codes "SecAuditLogDir" ∷
    codes "SecAuditLogDirMode" ∷
    codes "SecAuditLogFileMode" ∷
    codes "SecAuditLogFormat" ∷
    codes "SecAuditLogParts" ∷
    codes "SecAuditLogRelevantStatus" ∷
    codes "SecAuditLogStorageDir" ∷
    codes "SecAuditLogType" ∷
    codes "SecCollectionTimeout" ∷
    codes "SecComponentSignature" ∷
    codes "SecConnEngine" ∷
    codes "SecCookieFormat" ∷
    codes "SecDataDir" ∷
    codes "SecDebugLog" ∷
    codes "SecDebugLogLevel" ∷
    codes "SecPcreMatchLimit" ∷
    codes "SecPcreMatchLimitRecursion" ∷
    codes "SecRequestBodyInMemoryLimit" ∷
    codes "SecRequestBodyJsonDepthLimit" ∷
    codes "SecRequestBodyNoFilesLimit" ∷
    codes "SecResponseBodyLimit" ∷
    codes "SecResponseBodyLimitAction" ∷
    codes "SecResponseBodyMimeType" ∷
    codes "SecResponseBodyMimeTypesClear" ∷
    codes "SecSensorId" ∷
    codes "SecServerSignature" ∷
    codes "SecStatusEngine" ∷
    codes "SecTmpDir" ∷
    codes "SecUnicodeMapFile" ∷
    codes "SecWebAppId" ∷
    []

unfoldable pub is_accepted : List ℕ → Bool
is_accepted name = is_one_of accepted name

-- what a name stands for; none where it is unknown
abbrev pub directive_of : List ℕ → Option Directive
directive_of name = if is_accepted name then Some directives.Accepted else directive_named name

-- ---- those that are left out, and refused

abbrev pub left_out : List (List ℕ)
left_out =
    codes "SecRemoteRules" ∷
    codes "SecRemoteRulesFailAction" ∷
    codes "SecRuleScript" ∷
    codes "SecRuleRemoveByMsg" ∷
    codes "SecRuleUpdateTargetByMsg" ∷
    codes "SecUploadDir" ∷
    codes "SecUploadFileLimit" ∷
    codes "SecUploadFileMode" ∷
    codes "SecUploadKeepFiles" ∷
    codes "SecGeoLookupDb" ∷
    codes "SecGsbLookupDb" ∷
    codes "SecHttpBlKey" ∷
    []

unfoldable pub is_left_out : List ℕ → Bool
is_left_out name = is_one_of left_out name
