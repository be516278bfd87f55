-- The fields that each answer has. The script tools/web_page writes this file from page/page.html.
use Rattle.std.specs.Prelude.{ℕ, List, ◌++◌, codes}

unfoldable pub common_fields : List ℕ
common_fields =
    codes "Connection: close\r\n"
    ++ codes "Cache-Control: no-store\r\n"
    ++ codes "X-Content-Type-Options: nosniff\r\n"
    ++ codes "Referrer-Policy: no-referrer\r\n"
    ++ codes "Cross-Origin-Resource-Policy: same-origin\r\n"
    ++ codes "Content-Security-Policy: default-src 'none'; connect-src 'self'; img-src data:; base-uri 'none'; "
    ++ codes "form-action 'none'; frame-ancestors 'none'; "
    ++ codes "style-src 'sha256-rmAlRAPAW8mgLDvpp22lPKPQgkzTRvIhG9vAY+qwgFg='; "
    ++ codes "script-src 'sha256-lVgxhDOJRHhCn6tpC8qt/wqVcNohvZBJABT8AQBfwek='\r\n"
