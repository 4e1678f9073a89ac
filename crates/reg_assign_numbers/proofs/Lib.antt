mod Wished
mod Telling
